pub mod Listing
pub mod Arrays
mod StaticLines
mod Law
mod Values
pub mod Documents
