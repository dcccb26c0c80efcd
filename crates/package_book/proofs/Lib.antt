mod Once
pub mod NameLaws
mod BookLaws
mod Shelves
mod Lines
