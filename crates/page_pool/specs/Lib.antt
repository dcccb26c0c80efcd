pub mod Flags
pub mod FreeList
pub mod Words
