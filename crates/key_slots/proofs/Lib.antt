pub mod Parts
pub mod Texts
pub mod First
pub mod Changes
pub mod Wrapped
