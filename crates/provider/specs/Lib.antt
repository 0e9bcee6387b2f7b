pub mod Answers
pub mod Attached
pub mod Opening
pub mod Rest
