pub mod Joined
pub mod Plain
pub mod Keys
pub mod Runs
pub mod TaggedUnitLaws
pub mod Sectors
pub mod Single
