pub mod Algorithms
pub mod SectorSize
pub mod Keying
pub mod Units
pub mod Geometry
pub mod Refusals
pub mod Requests
