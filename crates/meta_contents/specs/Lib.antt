pub mod Lines
pub mod Contents
pub mod Package
pub mod Invariant
