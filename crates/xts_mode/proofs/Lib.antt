pub mod Tweaks
pub mod Halves
pub mod GroupLaws
pub mod Lengths
