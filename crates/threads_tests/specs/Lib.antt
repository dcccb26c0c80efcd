pub mod Depot
pub mod Notes
pub mod Stations
