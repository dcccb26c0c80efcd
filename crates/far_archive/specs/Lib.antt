pub mod Fields
pub mod Faults
pub mod Archive
pub mod Written
pub mod Invariant
pub mod Named
