-- The boot takes the slot that the record chooses, and finds the packages of its system. In recovery
-- there are none.
use Rattle.std.specs.Prelude.{◌≡◌, ℕ, true, List, [], Some, None, Option, IsSomeAnd}
use Rattle.abr_record.specs.declared.Slot.{Slot}
use Rattle.abr_record.specs.declared.Slot.TheVariants.{A, B, R}
use Rattle.abr_record.specs.Boot.{boot_slot, boot_record}
use Rattle.image_layout.specs.declared.Sys.{Sys}
use Rattle.pkg_names.specs.declared.pinned.Pinned.{Pinned}
use Rattle.system_lists.specs.Judging.{Verdict}
use Rattle.system_lists.specs.Judging.Verdict.{Whole}
use Rattle.store_model.specs.declared.events.LookedAt.{LookedAt}
use Rattle.store_model.specs.State.{State, sys_of}
use Rattle.store_model.specs.Systems.{booted_verdict, base_of, cached_of}

-- the verdict on a system is that it is whole
abbrev pub IsWhole : Verdict → Type 0
IsWhole verdict = (base cached : List Pinned) × (verdict ≡ Whole base cached)

-- the slot is recovery, or its system is whole by what was looked at
abbrev pub HasSystem : State → List LookedAt → Slot → Type 0
HasSystem s seen A = IsSomeAnd s.a (λ sys. IsWhole (booted_verdict s seen sys))
HasSystem s seen B = IsSomeAnd s.b (λ sys. IsWhole (booted_verdict s seen sys))
HasSystem s seen R = Unit {0}

pub record IsDueBoot (s : State) (by : ℕ) (slot : Slot) (seen : List LookedAt) : Type 0 where
  pub lane : by ≡ 0
  pub chosen : slot ≡ boot_slot s.abr
  pub whole : HasSystem s seen slot

abbrev pub base_after_boot : State → List LookedAt → Option Sys → List Pinned
base_after_boot s seen None = []
base_after_boot s seen (Some sys) = base_of (booted_verdict s seen sys)

abbrev pub cached_after_boot : State → List LookedAt → Option Sys → List Pinned
cached_after_boot s seen None = []
cached_after_boot s seen (Some sys) = cached_of (booted_verdict s seen sys)

abbrev pub next_boot : State → List LookedAt → State
next_boot s seen = record s {
  booted = true;
  abr = boot_record s.abr;
  running = boot_slot s.abr;
  base = base_after_boot s seen (sys_of s (boot_slot s.abr));
  cached = cached_after_boot s seen (sys_of s (boot_slot s.abr));
}
