mod Finding
mod Bringing
mod Files
