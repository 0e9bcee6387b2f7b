pub mod Keys
pub mod Holding
pub mod Kept
pub mod Lending
pub mod Numbers
pub mod Ring
pub mod Unit
