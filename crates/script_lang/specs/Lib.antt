pub mod Ends
pub mod Requests
pub mod Scripts
pub mod Servable
pub mod Spelling
pub mod Text
