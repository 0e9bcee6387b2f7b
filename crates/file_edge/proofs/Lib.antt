mod Beside
mod Cabinet
mod Folder
mod Kept
pub mod Left
mod Logs
mod Names
mod Same
mod Telling
mod Turns
