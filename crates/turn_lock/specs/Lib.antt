pub mod Entries
pub mod Sitting
pub mod Rule
pub mod Steps
