pub mod Lists
pub mod Puts
pub mod Among
pub mod Calls
pub mod Moving
pub mod Alone
