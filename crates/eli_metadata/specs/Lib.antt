pub mod Checks
pub mod Format
pub mod Place
pub mod Refusals
