pub mod Copying
pub mod Filling
pub mod Memory
pub mod Stores
pub mod Opening
pub mod Putting
