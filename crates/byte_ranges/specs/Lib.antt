pub mod Ranges
pub mod Reads
pub mod Edges
pub mod Writes
pub mod Zeros
