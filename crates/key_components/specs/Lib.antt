pub mod Answers
pub mod Files
pub mod Key
pub mod Parts
