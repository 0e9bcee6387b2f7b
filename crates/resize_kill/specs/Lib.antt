pub mod Killing
pub mod Resizing
pub mod Trash
