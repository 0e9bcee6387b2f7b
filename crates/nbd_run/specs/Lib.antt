pub mod Attaching
pub mod Ending
pub mod Program
pub mod Status
pub mod Words
