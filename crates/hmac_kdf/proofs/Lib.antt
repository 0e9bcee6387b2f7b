pub mod Blocks
pub mod Iterates
pub mod Lengths
pub mod Bytes
