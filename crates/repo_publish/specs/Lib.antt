pub mod Ends
pub mod Lists
pub mod Memory
pub mod Post
pub mod Published
pub mod Refusals
pub mod Steps
pub mod Tree
