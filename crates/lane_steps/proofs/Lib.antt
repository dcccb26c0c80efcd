mod Asked
mod Grown
pub mod Kept
mod Staged
