pub mod Activation
pub mod Counting
pub mod Ledgers
pub mod Looks
pub mod Steps
pub mod Turns
