pub mod Past
pub mod Images
pub mod Disks
pub mod Picks
