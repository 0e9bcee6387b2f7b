pub mod Refusals
pub mod Rest
pub mod Resuming
pub mod Suspension
