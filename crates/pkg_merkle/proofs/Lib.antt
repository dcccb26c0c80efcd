pub mod RootLemmas
pub mod Growing
pub mod Levels
pub mod Feeding
pub mod Inputs
pub mod BindingLaw
