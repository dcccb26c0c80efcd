-- The words in which the law tells what a staged update is.
use Rattle.std.specs.Prelude.{◌≡◌, ℕ, zero, suc, Bool, true, false, List, [], ◌∷◌, Option, Some, None}
use Rattle.abr_record.specs.declared.Slot.{Slot}
use Rattle.store_model.specs.declared.ends.ActivateEnd.TheVariants as activations
use Rattle.store_model.specs.declared.ends.RetainEnd.TheVariants as retains
use Rattle.store_model.specs.declared.ends.StageEnd.TheVariants as stages
use Rattle.store_model.specs.declared.events.Act.{Act}
use Rattle.store_model.specs.declared.events.Act.TheVariants as acts
use Rattle.store_model.specs.History.{Numbered}

-- what an event does for an update: a package is asked for, a slot is taken, packages are retained, the slot is
-- sealed, made the one that boots next, and left; or one of these but the first and the last is refused
pub data Mark : Type 0 where
  Asked : Mark
  Taken : Mark
  Retained : Mark
  SealedSlot : Mark
  Activated : Slot → Mark
  Left : Mark
  Refusal : Mark

abbrev pub mark_of : Act → Option Mark
mark_of (acts.Begin path choice reply seen) = Some Asked
mark_of (acts.Stage epoch (stages.Turn slot)) = Some Taken
mark_of (acts.Stage epoch reply) = Some Refusal
mark_of (acts.Retain roots retains.Done seen) = Some Retained
mark_of (acts.Retain roots reply seen) = Some Refusal
mark_of (acts.Seal sys None) = Some SealedSlot
mark_of (acts.Seal sys (Some difference)) = Some Refusal
mark_of (acts.Activate (activations.Active slot) seen) = Some (Activated slot)
mark_of (acts.Activate reply seen) = Some Refusal
mark_of acts.LeftStage = Some Left
mark_of act = None

-- a call in which a write failed did nothing of it
abbrev pub mark_if : Bool → Option Mark → Option Mark
mark_if true None = None
mark_if true (Some mark) = Some Refusal
mark_if false mark = mark

abbrev pub with_mark : Option Mark → List Mark → List Mark
with_mark None marks = marks
with_mark (Some mark) marks = mark ∷ marks

-- what the events do, in their order
abbrev pub marks : List Numbered → List Mark
marks [] = []
marks (e ∷ es) = with_mark (mark_if e.event.broke (mark_of e.event.act)) (marks es)

-- so many packages are asked for, and then these come
abbrev pub asked : ℕ → List Mark → List Mark
asked zero later = later
asked (suc count) later = Asked ∷ asked count later

-- One package is asked for, a slot is taken, packages are retained, some more are asked for, the slot is sealed, made
-- the one that boots next, and left; each once, in this order, and nothing of it is refused.
pub record IsInOrder (slot : Slot) (run : List Numbered) : Type 0 where
  pub count : ℕ
  pub order : marks run ≡ Asked ∷ Taken ∷ Retained ∷ asked count (SealedSlot ∷ Activated slot ∷ Left ∷ [])
