pub mod Drafts
pub mod Images
