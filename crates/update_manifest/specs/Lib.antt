pub mod Epoch
pub mod Packages
pub mod Partition
pub mod Images
pub mod Found
