pub mod Xts
pub mod Halves
pub mod Examples
pub mod Ways
