pub mod Geometry
pub mod Super
pub mod Sums
