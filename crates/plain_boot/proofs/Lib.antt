pub mod AllBooks
pub mod Agreeing
pub mod Looked
pub mod Whole
pub mod Booted
