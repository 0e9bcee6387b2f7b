pub mod Images
pub mod Covered
pub mod OfFiles
