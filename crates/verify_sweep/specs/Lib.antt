pub mod Parts
pub mod Sweeping
