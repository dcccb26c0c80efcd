pub mod Entries
pub mod Spelling
pub mod Table
pub mod Steps
