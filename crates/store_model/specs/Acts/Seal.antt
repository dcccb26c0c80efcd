-- The images of the slot that is filled are those of a system, or one of them isn't.
use Rattle.std.specs.Prelude.{◌≢◌, ℕ, Option, Some, None}
use Rattle.image_layout.specs.declared.ImageKind.{ImageKind}
use Rattle.image_layout.specs.declared.ImageKind.TheVariants.{Zbi, Vbmeta}
use Rattle.image_layout.specs.declared.ImageSum.{ImageSum}
use Rattle.image_layout.specs.declared.Sys.{Sys}
use Rattle.store_model.specs.declared.ends.Difference.{Difference}
use Rattle.store_model.specs.State.{State, IsStageOf}
use Rattle.store_model.specs.State.Phase.{Filling, Sealed}

-- the sum that an image has in a system
abbrev pub sum_in : Sys → ImageKind → ImageSum
sum_in sys Zbi = sys.zbi
sum_in sys Vbmeta = sys.vbmeta

abbrev pub Differs : Sys → Option Difference → Type 0
Differs sys None = Unit {0}
Differs sys (Some difference) = difference.got ≢ sum_in sys difference.image

abbrev pub IsDueSeal : State → ℕ → Sys → Option Difference → Type 0
IsDueSeal s lane sys reply = IsStageOf s lane Filling × Differs sys reply

abbrev pub next_seal : State → ℕ → Sys → Option Difference → State
next_seal s lane sys None = record s { stage = Some (record { lane = lane; phase = Sealed sys }) }
next_seal s lane sys (Some difference) = s
