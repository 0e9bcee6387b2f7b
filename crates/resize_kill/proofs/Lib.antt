pub mod Destroyed
pub mod Moved
