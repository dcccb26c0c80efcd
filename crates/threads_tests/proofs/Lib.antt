pub mod Depots
pub mod Sent
pub mod Pairs
