pub mod Tasks
pub mod Play
pub mod Moves
pub mod Alone
