mod Outputs
mod Printing
mod Feeding
mod Elements
mod Ending
