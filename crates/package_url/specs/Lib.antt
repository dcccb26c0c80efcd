pub mod Url
pub mod Reading
