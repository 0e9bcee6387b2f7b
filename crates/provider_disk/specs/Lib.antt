pub mod Above
pub mod Opened
pub mod OpenedFits
pub mod ProviderDisk
