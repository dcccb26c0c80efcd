pub mod Plan
pub mod Serving
pub mod Holding
pub mod Viewing
pub mod Filled
pub mod Steps
pub mod Laws
pub mod Causes
