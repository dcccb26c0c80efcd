-- How a store starts, from the state before its boot.
use Rattle.std.specs.Prelude.{◌≡◌, ◌&&◌, not, false, List, Some, None, if◌then◌else◌}
use Rattle.pkg_names.specs.declared.root.Root.{Root}
use Rattle.abr_record.specs.declared.Slot.{Slot}
use Rattle.abr_record.specs.Boot.{boot_slot}
use Rattle.image_layout.specs.declared.Sys.{Sys}
use Rattle.package_book.specs.Books.{book_at}
use Rattle.system_lists.specs.Judging.{Verdict, judged}
use Rattle.system_lists.specs.Judging.Verdict.{Missing as as_missing, Faulty as as_faulty}
use Rattle.store_model.specs.declared.events.LookedAt.{LookedAt}
use Rattle.store_model.specs.State.{State, is_recovery, sys_of, stored_len, has_root, protected_in}
use Rattle.store_model.specs.Settling.{IsSeen}
use Rattle.store_model.specs.Acts.Boot.{IsDueBoot, next_boot}
use Rattle.plain_state.specs.Learning.{IsSettled, first_known, long_of}
use Rattle.plain_state.specs.Looking.{roots_seen}
use Rattle.plain_boot.specs.AllBooks.{all_at_hand}
use Rattle.plain_boot.specs.declared.starting.BootEnd.{BootEnd}
use Rattle.plain_boot.specs.declared.starting.BootEnd.TheVariants.{Runs, NoSystem, Missing, Faulty}

-- The boot of this slot is due as the first event, with what it looked at; and this is the state after it.
pub record HasBooted (s : State) (slot : Slot) (seen : List LookedAt) (new : State) : Type 0 where
  pub due : IsDueBoot s 0 slot seen
  pub there : IsSeen seen s.stock
  pub settled : IsSettled seen (next_boot s seen) new

-- The record boots this slot, A or B.
pub record IsToBoot (s : State) (slot : Slot) : Type 0 where
  pub chosen : slot ≡ boot_slot s.abr
  pub apart : is_recovery slot ≡ false

-- By all that is stored this is the verdict on the system of the slot that the record boots.
pub record IsRefused (contents : List LookedAt) (s : State) (slot : Slot) (verdict : Verdict) : Type 0 where
  pub boots : IsToBoot s slot
  pub sys : Sys
  pub sealed : sys_of s slot ≡ Some sys
  pub judged : judged (all_at_hand contents s) sys.system ≡ verdict

abbrev pub Starts : List LookedAt → State → BootEnd → Type 0
Starts contents s (Runs state slot seen) = HasBooted s slot seen state
Starts contents s (NoSystem slot) = IsToBoot s slot × (sys_of s slot ≡ None)
Starts contents s (Missing slot root) = IsRefused contents s slot (as_missing root)
Starts contents s (Faulty slot why) = IsRefused contents s slot (as_faulty why)

-- The books have learned the lengths of the protected packages that are too long to be read, and have forgotten
-- what was looked at and isn't protected.
pub record HasSettled (seen : List LookedAt) (old new : State) : Type 0 where
  pub rest : new ≡ record old { books = new.books }
  pub books : (root : Root) → book_at new.books root
      ≡ (if has_root (roots_seen seen) root && not (has_root (protected_in old) root) then None
      else first_known (book_at old.books root)
      (if has_root (protected_in old) root then long_of (stored_len old.stock root) else None))
