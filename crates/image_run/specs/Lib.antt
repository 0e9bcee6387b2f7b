pub mod Program
pub mod Surviving
