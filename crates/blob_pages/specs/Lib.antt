pub mod Pages
pub mod Room
pub mod Draft
pub mod Written
pub mod Chains
