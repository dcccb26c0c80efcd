mod Named
mod Entries
mod Alike
mod Told
mod SlotLemmas
mod Complete
