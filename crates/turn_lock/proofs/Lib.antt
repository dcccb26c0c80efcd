pub mod Lists
pub mod Keeps
pub mod Seats
pub mod Ends
pub mod Crossing
