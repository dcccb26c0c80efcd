-- What a state has of a system, what is looked at of it, and what a verdict on a sealed one leaves.
use Rattle.std.specs.Prelude.{◌≡◌, ◌||◌, not, ℕ, Bool, List, Option, Some, None, is_some}
use Rattle.pkg_names.specs.declared.root.Root.{Root}
use Rattle.abr_record.specs.Marks.{active_record}
use Rattle.image_layout.specs.declared.Sys.{Sys}
use Rattle.package_book.specs.Book.{MetaAndFiles, outer_at}
use Rattle.package_book.specs.Names.{names}
use Rattle.system_lists.specs.Judging.{AtHand, Verdict, static_name, cached_name}
use Rattle.system_lists.specs.Judging.Verdict.{Unread, Whole}
use Rattle.store_model.specs.declared.events.LookedAt.{LookedAt}
use Rattle.store_model.specs.declared.ends.ActivateEnd.{ActivateEnd}
use Rattle.store_model.specs.declared.ends.ActivateEnd.TheVariants as ends
use Rattle.store_model.specs.State.{State, stored_len, has_root, other_slot, with_sys}
use Rattle.store_model.specs.State.Phase.{Done}
use Rattle.store_model.specs.Systems.{seen_bytes}
use Rattle.store_model.specs.Packages.{known_book}
use Rattle.plain_state.specs.Looking.{IsLookedAt}

abbrev pub outer_in : Option MetaAndFiles → List ℕ → Option Root
outer_in None path = None
outer_in (Some found) path = outer_at path found.outer

-- by the books as they are, with the bytes that were looked at; where only what is retained counts, by that
abbrev pub hand_of : State → List LookedAt → Bool → AtHand
hand_of s seen retained = record {
  len = stored_len s.stock;
  is_kept = λ root. not retained || has_root s.retained root;
  is_book = λ root. is_some (known_book s.books root);
  names = λ root. names root s.books;
  outer = λ root path. outer_in (known_book s.books root) path;
  bytes = seen_bytes seen;
}

-- the list of this name of the system's package was seen, if the package is known and has it
abbrev pub IsListSeen : List LookedAt → List LookedAt → State → Root → List ℕ → Type 0
IsListSeen contents seen s system name = (root : Root) → outer_in (known_book s.books system) name ≡ Some root
    → IsLookedAt contents seen root

pub record AreListsSeen (contents seen : List LookedAt) (s : State) (system : Root) : Type 0 where
  pub base : IsListSeen contents seen s system static_name
  pub cached : IsListSeen contents seen s system cached_name

-- no list was wanting
abbrev pub IsJudged : Verdict → Type 0
IsJudged (Unread root) = ⊥
IsJudged verdict = Unit {0}

-- nothing that had to be read was wanting
abbrev pub IsReadAll : ActivateEnd → Type 0
IsReadAll ends.DiskRead = ⊥
IsReadAll (ends.Rotten root got) = ⊥
IsReadAll reply = Unit {0}

-- the state after a verdict on the sealed system: a whole one boots next
abbrev pub after_verdict : State → ℕ → Sys → Verdict → State
after_verdict s lane sys (Whole base cached) = with_sys (record s {
  abr = active_record (other_slot s.running) s.abr;
  stage = Some (record { lane = lane; phase = Done });
  staged = Some base;
}) (other_slot s.running) (Some sys)
after_verdict s lane sys verdict = s
