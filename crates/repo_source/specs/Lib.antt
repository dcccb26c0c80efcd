pub mod MemoryRepo
pub mod Repo
