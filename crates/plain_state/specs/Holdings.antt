-- How much lanes hold, and what an update has sealed.
use Rattle.std.specs.Prelude.{ℕ, ◌+◌, length, Option, Some, None}
use Rattle.image_layout.specs.declared.Sys.{Sys}
use Rattle.store_model.specs.State.{Stage, State, Phase}
use Rattle.store_model.specs.State.Phase.{Sealed}

abbrev pub stage_ends : Option Stage → ℕ
stage_ends None = 0
stage_ends (Some stage) = 1

-- how many events will end what lanes hold: each claim, ticket and directory has one, and an update
abbrev pub ends_due : State → ℕ
ends_due s = length s.claims + length s.arriving + length s.dirs + stage_ends s.stage

-- the system that is sealed, and not active yet
abbrev pub sealed_at : Phase → Option Sys
sealed_at (Sealed sys) = Some sys
sealed_at phase = None

abbrev pub sealed_in : Option Stage → Option Sys
sealed_in None = None
sealed_in (Some stage) = sealed_at stage.phase
