pub mod PageBytes
pub mod Passing
pub mod Adding
pub mod Writing
pub mod Acts
pub mod Reading
pub mod ImageBytes
pub mod Parts
