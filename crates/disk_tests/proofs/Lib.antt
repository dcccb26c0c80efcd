pub mod CommitSteps
