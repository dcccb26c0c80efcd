-- A directory is closed, if the lane has it open.
use Rattle.std.specs.Prelude.{◌≡◌, ℕ, Bool, is_some}
use Rattle.open_tracker.specs.Directories.{root_of, without}
use Rattle.store_model.specs.State.{State}

abbrev pub IsDueClose : State → ℕ → ℕ → Bool → Type 0
IsDueClose s lane dir closed = closed ≡ is_some (root_of s.dirs dir lane)

abbrev pub next_close : State → ℕ → ℕ → State
next_close s lane dir = record s { dirs = without s.dirs dir lane }
