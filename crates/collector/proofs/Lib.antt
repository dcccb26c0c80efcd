pub mod Tallies
mod Maps
mod NameLists
