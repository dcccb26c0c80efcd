mod Texts
mod Pairs
mod Cuts
mod Placing
mod Law
mod Round
