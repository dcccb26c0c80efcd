pub mod Merkle
pub mod Hasher
pub mod Binding
