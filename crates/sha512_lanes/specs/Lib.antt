pub mod Hashes
pub mod Tails
