pub mod Areas
pub mod Header
pub mod Slots
pub mod Filling
pub mod Steps
