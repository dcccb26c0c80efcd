pub mod Serving
pub mod Counting
pub mod Fetched
pub mod Viewing
pub mod Steps
pub mod Laws
