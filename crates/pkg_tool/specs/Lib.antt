pub mod Words
pub mod Written
pub mod Printing
pub mod Running
pub mod Hashing
pub mod Steps
