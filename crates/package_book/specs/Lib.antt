pub mod Books
pub mod Book
pub mod Names
pub mod Alone
pub mod Unprotected
pub mod Shelf
pub mod Invariant
