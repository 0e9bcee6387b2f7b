pub mod Laws
pub mod Numbers
pub mod Replaced
pub mod Supported
