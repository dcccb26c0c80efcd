-- Where an update may begin, A or B runs.
use Rattle.std.proofs.Common.{◌≡◌, ◌≢◌, ℕ, not, Bool, true, false, cond, Option, Some, None, refl, sym, ap, ◌∙◌}
use Rattle.std.specs.Prelude.{nat_lt}
use Rattle.std.proofs.lemmas.Bool.{true≢false, and_parts}
use Rattle.abr_record.specs.declared.Slot.{Slot}
use Rattle.abr_record.specs.declared.Slot.TheVariants as slots
use Rattle.store_model.specs.declared.ends.StageEnd.{StageEnd}
use Rattle.store_model.specs.declared.ends.StageEnd.TheVariants as stages
use Rattle.store_model.specs.State.{State, Stage, is_committed, is_pending, is_recovery, other_slot, running_epoch}
use Rattle.store_model.specs.Acts.Stage.{held_answer, stage_answer}

-- what the turn of an update tells
pub record IsTurn (s : State) (given : Slot) : Type 0 where
  pub runs : is_recovery s.running ≡ false
  pub slot : given ≡ other_slot s.running

in_recovery : (t : Bool) (x : StageEnd) (slot : Slot) → cond t stages.InRecovery x ≡ stages.Turn slot → (t ≡ false) × (x ≡ stages.Turn slot)
in_recovery true x slot e = absurd cc
in_recovery false x slot e = (refl, e)

pub turn_of : (s : State) (epoch : ℕ) (slot : Slot) → stage_answer s epoch ≡ stages.Turn slot → IsTurn s slot
turn_of s epoch slot answer =
    let on = in_recovery (is_recovery s.running) (held_answer s epoch s.stage) slot answer in
    record { runs = on.0; slot = held s.stage on.1 } where
      free : (committed older : Bool) → cond (not committed) stages.NotCommitted (cond older (stages.Older (running_epoch s)) (stages.Turn (other_slot s.running))) ≡ stages.Turn slot → slot ≡ other_slot s.running
      free true true e = absurd cc
      free true false e = cc
      free false older e = absurd cc

      held : (stage : Option Stage) → held_answer s epoch stage ≡ stages.Turn slot → slot ≡ other_slot s.running
      held None e = free (is_committed s) (nat_lt epoch (running_epoch s)) e
      held (Some stage) e = absurd cc

pub not_recovery : (slot : Slot) → is_recovery slot ≡ false → slot ≢ slots.R
not_recovery slot runs is = true≢false (sym (ap is_recovery is) ∙ runs)

off : (b : Bool) → not b ≡ true → b ≡ false
off true e = absurd (true≢false (sym e))
off false e = refl

pub pending_runs : (s : State) → is_pending s ≡ true → is_recovery s.running ≡ false
pending_runs s pending = off (is_recovery s.running) (and_parts (not (is_recovery s.running)) (not (is_committed s)) pending).0
