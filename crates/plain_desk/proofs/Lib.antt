pub mod Answered
pub mod Blobs
pub mod Claims
pub mod Copied
pub mod Copies
pub mod Filled
pub mod Landing
pub mod Own
mod Opened
pub mod Stores
pub mod Wants
