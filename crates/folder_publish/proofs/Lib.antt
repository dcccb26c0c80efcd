mod Names
mod Puts
mod Reading
mod Took
