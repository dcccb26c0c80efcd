mod Finds
mod Claims
mod Marks
