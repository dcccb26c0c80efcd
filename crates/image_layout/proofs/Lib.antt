pub mod SuperLemmas
pub mod RegionLemmas
