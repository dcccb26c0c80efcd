pub mod Names
pub mod Serving
pub mod Laws
pub mod Steps
pub mod Viewing
