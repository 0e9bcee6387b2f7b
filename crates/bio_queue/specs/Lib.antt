pub mod Requests
pub mod Answers
pub mod Kept
pub mod Owners
