pub mod RunDisk
pub mod TracedDisk
