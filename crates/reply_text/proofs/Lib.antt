pub mod Digits
pub mod Pieces
pub mod Offsets
pub mod AnswerTexts
