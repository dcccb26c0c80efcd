pub mod Folder
pub mod Listing
