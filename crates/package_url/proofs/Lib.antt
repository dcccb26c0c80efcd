pub mod Places
pub mod PathTests
mod PartTexts
mod Written
mod Faults
