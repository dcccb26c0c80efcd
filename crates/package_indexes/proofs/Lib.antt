mod Paths
mod Tickets
mod Once
