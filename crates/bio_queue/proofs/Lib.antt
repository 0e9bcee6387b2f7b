pub mod Places
pub mod Tags
pub mod Held
pub mod Served
pub mod Owned
