pub mod Post
pub mod Tree
