mod Paths
mod Packages
