pub mod AllBooks
pub mod Looking
pub mod Starting
