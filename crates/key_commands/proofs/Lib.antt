pub mod Changing
pub mod Keys
pub mod Making
pub mod Passes
pub mod Usable
