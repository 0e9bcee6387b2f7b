mod Bounds
mod Forms
mod Joining
mod OperandsLemmas
mod Options
mod Places
pub mod Said
mod Text
mod WordsLemmas
pub mod Scan
