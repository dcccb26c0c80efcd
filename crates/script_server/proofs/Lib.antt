mod Histories
mod Resting
mod Turns
mod Scripts
pub mod Fresh
