pub mod Asked
pub mod Bindings
pub mod Called
pub mod Lanes
pub mod Runs
