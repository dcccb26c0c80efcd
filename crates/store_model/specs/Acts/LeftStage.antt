-- An update is over, whether or not it came to its end.
use Rattle.std.specs.Prelude.{◌≡◌, ℕ, None, IsSomeAnd}
use Rattle.store_model.specs.State.{State, Stage}

abbrev pub IsDueLeftStage : State → ℕ → Type 0
IsDueLeftStage s lane = IsSomeAnd s.stage (λ (stage : Stage). stage.lane ≡ lane)

abbrev pub next_left_stage : State → State
next_left_stage s = record s { stage = None }
