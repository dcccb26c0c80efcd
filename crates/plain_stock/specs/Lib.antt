pub mod Contents
pub mod Stocks
