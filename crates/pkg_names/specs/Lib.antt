pub mod Text
pub mod Numbers
pub mod NameAndVariant
pub mod FileText
pub mod Root
pub mod MemoryStreams
pub mod Streams
