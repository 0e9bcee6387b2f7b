pub mod Cbc
pub mod Examples
