pub mod Verdicts
pub mod Reading
pub mod Reads
pub mod Writing
