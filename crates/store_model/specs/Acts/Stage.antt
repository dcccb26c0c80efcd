-- An update to a system of this epoch begins. The slot that is to be filled can't be booted from then on.
use Rattle.std.specs.Prelude.{◌≡◌, ℕ, nat_lt, not, Option, Some, None, if◌then◌else◌}
use Rattle.abr_record.specs.declared.Record.{Record}
use Rattle.abr_record.specs.declared.Slot.{Slot}
use Rattle.abr_record.specs.Marks.{unbootable_record}
use Rattle.store_model.specs.declared.ends.StageEnd.{StageEnd}
use Rattle.store_model.specs.declared.ends.StageEnd.TheVariants.{Turn, InRecovery, Busy, NotCommitted, Older}
use Rattle.store_model.specs.State.{State, Stage, other_slot, is_recovery, is_other_bootable, is_committed, running_epoch, with_sys}
use Rattle.store_model.specs.State.Phase.{Filling}

abbrev pub free_answer : State → ℕ → StageEnd
free_answer s epoch =
    if not (is_committed s) then NotCommitted
    else if nat_lt epoch (running_epoch s) then Older (running_epoch s)
    else Turn (other_slot s.running)

abbrev pub held_answer : State → ℕ → Option Stage → StageEnd
held_answer s epoch (Some stage) = Busy stage.lane
held_answer s epoch None = free_answer s epoch

-- in recovery, while a lane has an update under way, while the running system may not stay, and to an
-- older system there is no update
abbrev pub stage_answer : State → ℕ → StageEnd
stage_answer s epoch = if is_recovery s.running then InRecovery else held_answer s epoch s.stage

abbrev pub IsDueStage : State → ℕ → StageEnd → Type 0
IsDueStage s epoch reply = reply ≡ stage_answer s epoch

abbrev pub abr_after_stage : State → Slot → Record
abr_after_stage s slot =
    if is_other_bootable s.abr s.running then unbootable_record slot s.abr else s.abr

abbrev pub staging : State → ℕ → Slot → State
staging s lane slot = with_sys (record s {
  abr = abr_after_stage s slot;
  stage = Some (record { lane = lane; phase = Filling });
  staged = None;
}) slot None

abbrev pub next_stage : State → ℕ → StageEnd → State
next_stage s lane (Turn slot) = staging s lane slot
next_stage s lane reply = s
