mod CrcLemmas
pub mod ByteLemmas
mod SettlingLemmas
