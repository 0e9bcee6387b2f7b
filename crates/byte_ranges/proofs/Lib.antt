pub mod Reading
pub mod Covering
pub mod Splicing
pub mod Writing
pub mod Zeroing
