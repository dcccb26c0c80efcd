pub mod Judgement
pub mod Listed
