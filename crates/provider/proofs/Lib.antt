pub mod Ranges
pub mod Checked
pub mod Told
pub mod OpenedSlots
