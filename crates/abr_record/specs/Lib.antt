pub mod Boot
pub mod Bytes
pub mod Crc
pub mod Marks
pub mod Settling
