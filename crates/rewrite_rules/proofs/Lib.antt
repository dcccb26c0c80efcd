mod Slashes
mod Entries
mod Holding
mod Fitting
mod Firsts
mod Routes
mod Hosting
