pub mod Field
pub mod State
pub mod Aes
pub mod Blocks
pub mod Columns
pub mod Schedule
pub mod ScheduleLaws
pub mod Examples
