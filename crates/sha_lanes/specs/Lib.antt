pub mod Lanes
pub mod Prefixes
pub mod Tails
