pub mod ContentsMap
pub mod Named
pub mod Stocks
pub mod KeptBytes
