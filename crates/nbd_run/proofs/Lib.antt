pub mod Attached
pub mod Ended
pub mod Imaged
mod One
