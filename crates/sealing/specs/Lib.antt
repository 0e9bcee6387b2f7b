pub mod Runs
pub mod TaggedUnits
pub mod Sectors
pub mod Data
