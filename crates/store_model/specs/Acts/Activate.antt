-- The sealed system is judged. If it is whole, its slot boots next.
use Rattle.std.specs.Prelude.{◌≡◌, ℕ, false, List, Option, Some, None}
use Rattle.pkg_names.specs.declared.root.Root.{Root}
use Rattle.pkg_names.specs.Root.{root_eq}
use Rattle.abr_record.specs.declared.Slot.{Slot}
use Rattle.abr_record.specs.Marks.{active_record}
use Rattle.image_layout.specs.declared.Sys.{Sys}
use Rattle.system_lists.specs.Judging.{Verdict}
use Rattle.system_lists.specs.Judging.Verdict.{Missing, Faulty, Unread}
use Rattle.store_model.specs.declared.events.LookedAt.{LookedAt}
use Rattle.store_model.specs.declared.ends.ActivateEnd.{ActivateEnd}
use Rattle.store_model.specs.declared.ends.ActivateEnd.TheVariants.{Active, BaseMissing, NotASystem, DiskRead, Rotten}
use Rattle.store_model.specs.State.{State, Phase, Stage, IsStageOf, other_slot, with_sys}
use Rattle.store_model.specs.State.Phase.{Sealed, Done}
use Rattle.store_model.specs.Systems.{staged_verdict, base_of}
use Rattle.store_model.specs.Acts.Boot.{IsWhole}

-- the answer that the verdict calls for; a list that has to be read can't be, or has rotten
abbrev pub IsAnswerTo : State → Verdict → ActivateEnd → Type 0
IsAnswerTo s verdict (Active slot) = IsWhole verdict × (slot ≡ other_slot s.running)
IsAnswerTo s verdict (BaseMissing root) = verdict ≡ Missing root
IsAnswerTo s verdict (NotASystem why) = verdict ≡ Faulty why
IsAnswerTo s verdict DiskRead = (root : Root) × (verdict ≡ Unread root)
IsAnswerTo s verdict (Rotten root got) = (verdict ≡ Unread root) × (root_eq root got ≡ false)

pub record IsDueActivate (s : State) (lane : ℕ) (seen : List LookedAt) (reply : ActivateEnd) : Type 0 where
  pub sys : Sys
  pub stage : IsStageOf s lane (Sealed sys)
  pub answer : IsAnswerTo s (staged_verdict s seen sys) reply

abbrev pub activated : State → ℕ → List LookedAt → Slot → Sys → State
activated s lane seen slot sys = with_sys (record s {
  abr = active_record slot s.abr;
  stage = Some (record { lane = lane; phase = Done });
  staged = Some (base_of (staged_verdict s seen sys));
}) slot (Some sys)

abbrev pub activated_in : State → ℕ → List LookedAt → Slot → Phase → State
activated_in s lane seen slot (Sealed sys) = activated s lane seen slot sys
activated_in s lane seen slot phase = s

abbrev pub activated_at : State → ℕ → List LookedAt → Slot → Option Stage → State
activated_at s lane seen slot None = s
activated_at s lane seen slot (Some stage) = activated_in s lane seen slot stage.phase

abbrev pub next_activate : State → ℕ → List LookedAt → ActivateEnd → State
next_activate s lane seen (Active slot) = activated_at s lane seen slot s.stage
next_activate s lane seen reply = s
