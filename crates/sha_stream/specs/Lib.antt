pub mod Schedule
pub mod Hasher
