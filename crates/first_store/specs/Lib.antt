pub mod Bytes
pub mod Start
pub mod Whole
