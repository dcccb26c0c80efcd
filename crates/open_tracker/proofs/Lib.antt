pub mod Finds
mod Looks
