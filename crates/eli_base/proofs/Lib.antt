pub mod Numbers
pub mod Units
