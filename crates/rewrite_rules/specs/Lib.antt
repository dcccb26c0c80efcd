pub mod Rule
pub mod Content
pub mod Reading
pub mod Routing
pub mod Hosts
