-- The judgement of a system, by what the store has and what an event looked at.
use Rattle.std.specs.Prelude.{ℕ, Bool, true, List, [], ◌∷◌, Option, Some, None, is_some, if◌then◌else◌}
use Rattle.pkg_names.specs.declared.root.Root.{Root}
use Rattle.pkg_names.specs.declared.pinned.Pinned.{Pinned}
use Rattle.pkg_names.specs.Root.{root_eq}
use Rattle.image_layout.specs.declared.Sys.{Sys}
use Rattle.package_book.specs.Book.{MetaAndFiles, outer_at}
use Rattle.package_book.specs.Names.{names}
use Rattle.system_lists.specs.Judging.{AtHand, Verdict, judged}
use Rattle.system_lists.specs.Judging.Verdict.{Whole}
use Rattle.store_model.specs.declared.events.LookedAt.{LookedAt}
use Rattle.store_model.specs.State.{State, stored_len, has_root}
use Rattle.store_model.specs.Settling.{looked_books}
use Rattle.store_model.specs.Packages.{known_book}

-- the bytes of a blob that was looked at
abbrev pub seen_bytes : List LookedAt → Root → Option (List ℕ)
seen_bytes [] root = None
seen_bytes (pair ∷ pairs) root = if root_eq pair.root root then Some pair.bytes else seen_bytes pairs root

abbrev outer_of : Option MetaAndFiles → List ℕ → Option Root
outer_of None path = None
outer_of (Some found) path = outer_at path found.outer

-- what the state and the blobs that were looked at have of a system
abbrev pub at_hand : State → List LookedAt → (Root → Bool) → AtHand
at_hand s seen is_kept = record {
  len = stored_len s.stock;
  is_kept = is_kept;
  is_book = λ root. is_some (known_book (looked_books seen s) root);
  names = λ root. names root (looked_books seen s);
  outer = λ root path. outer_of (known_book (looked_books seen s) root) path;
  bytes = seen_bytes seen;
}

-- a boot judges the system by what is stored
abbrev pub booted_verdict : State → List LookedAt → Sys → Verdict
booted_verdict s seen sys = judged (at_hand s seen (λ root. true)) sys.system

-- an update counts on what is retained alone
abbrev pub staged_verdict : State → List LookedAt → Sys → Verdict
staged_verdict s seen sys = judged (at_hand s seen (has_root s.retained)) sys.system

-- the two sets of a whole system
abbrev pub base_of : Verdict → List Pinned
base_of (Whole base cached) = base
base_of verdict = []

abbrev pub cached_of : Verdict → List Pinned
cached_of (Whole base cached) = cached
cached_of verdict = []
