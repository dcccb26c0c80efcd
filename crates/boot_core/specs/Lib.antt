pub mod Look
pub mod Seen
pub mod Whole
pub mod Slots
pub mod MemoryLook
pub mod Complete
