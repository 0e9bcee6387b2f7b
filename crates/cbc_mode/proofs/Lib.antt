pub mod Chain
pub mod GroupLaws
pub mod Lengths
