-- How many packages arrive, and what an opening replaces.
use Rattle.std.proofs.Common.{◌≡◌, ◌+◌, min, ℕ, arith, suc, Bool, true, false, cond, List, [], ◌∷◌, length, Option, Some, None, is_some, refl, ap}
use Rattle.package_indexes.specs.Indexes.{root_at}
use Rattle.store_model.specs.State.{State, Arrival}
use Rattle.plain_state.specs.Learning.{listed, replaced_by}
use Rattle.plain_state.specs.Opening.{replaced_by as replaced_from}
use Rattle.package_indexes.specs.declared.Arriving.{Arriving}
use Rattle.fetch_queue.specs.declared.queue.MarkEntry.{MarkEntry}
use Rattle.plain_state.specs.Views.{joined, AreMarked}

pub joined_length : (arriving : List Arriving) (marks : List MarkEntry) → AreMarked arriving marks → length (joined arriving marks) ≡ length arriving
joined_length [] marks h = refl
joined_length (a ∷ arriving) [] h = absurd h
joined_length (a ∷ arriving) (m ∷ marks) h = ap suc (joined_length arriving marks h.1)

-- sums that stand still at the last value of their type
pub sums : (a b c d r q t : ℕ) → r ≡ min (a + b) 18446744073709551615 → q ≡ min (r + c) 18446744073709551615 → t ≡ min (q + d) 18446744073709551615 → t ≡ min (a + b + c + d) 18446744073709551615
sums a b c d r q t first second third = omega (arith, first, second, third)

-- what an opening replaces, as a list
pub listed_replaced : (s : State) (a : Option Arrival) → replaced_by s a ≡ listed (replaced_from s a)
listed_replaced s None = refl
listed_replaced s (Some a) = first (is_some (root_at s.base a.path)) where
  first : (based : Bool) → cond based [] (listed (root_at s.active a.path)) ≡ listed (cond based None (root_at s.active a.path))
  first true = refl
  first false = refl
