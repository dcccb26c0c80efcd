pub mod Cuts
pub mod Lines
pub mod NumberParts
pub mod RootTexts
pub mod Roots
pub mod PathTexts
mod FileParts
pub mod FileTests
mod Taken
