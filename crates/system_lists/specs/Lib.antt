pub mod Entries
pub mod Lists
pub mod Static
pub mod Document
pub mod Faults
pub mod Cached
pub mod Judging
