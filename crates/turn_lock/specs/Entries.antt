-- A lane's entries in a list.
use Rattle.std.specs.Prelude.{ℕ, ◌+◌, ◌==◌, List, [], ◌∷◌, ◌++◌, if◌then◌else◌}

module _ {E : Type 0} (by : E → ℕ) (lane : ℕ) where
  -- the entry e with the number n, if it is the lane's
  abbrev pub own : ℕ → E → List (ℕ × E)
  own n e = if by e == lane then (n, e) ∷ [] else []

  -- the lane's entries, each with its number: the first of the list has the number n + 1
  abbrev pub entries_after : ℕ → List E → List (ℕ × E)
  entries_after n [] = []
  entries_after n (e ∷ es) = own (n + 1) e ++ entries_after (n + 1) es

  -- the lane's entries in a list, each with its number, from 1 on
  abbrev pub entries_by : List E → List (ℕ × E)
  entries_by es = entries_after 0 es
