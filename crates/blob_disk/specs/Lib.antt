pub mod Chains
pub mod Stock
pub mod Pooled
pub mod Gone
pub mod Drafts
pub mod Ends
pub mod Reading
pub mod Writes
