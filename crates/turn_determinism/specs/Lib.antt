pub mod Places
pub mod Quiet
pub mod Same
pub mod Told
