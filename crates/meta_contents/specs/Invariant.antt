-- What contents keep beside their lines.
use Rattle.std.specs.Prelude.{◌≡◌, ℕ, Bool, List, Vec, ◌∷◌, ◌++◌, [], Result, Ok}
use Rattle.std.specs.declared.alloc.Global.{Global}
use Rattle.std.specs.Ordering.{nat_cmp}
use Rattle.std.specs.Cmp.Lexicographic.{slice_cmp}
use Rattle.std.specs.BTreeSet.{BTreeSet, contains_by}
use Rattle.meta_contents.specs.declared.contents.ContentsLine.{ContentsLine}
use Rattle.meta_contents.specs.Contents.{Pair, is_among, paths, pairs}
use Rattle.meta_contents.specs.declared.fault.ContentsFault.{ContentsFault}

-- the index has these bytes
abbrev pub has : BTreeSet (Vec ℕ Global) → List ℕ → Bool
has index bytes = contains_by (λ key. slice_cmp nat_cmp bytes key.items) index

-- the index has the paths of these lines, and no others
abbrev pub HasPaths : BTreeSet (Vec ℕ Global) → List ContentsLine → Type 0
HasPaths index lines = (bytes : List ℕ) → has index bytes ≡ is_among bytes (paths (pairs lines))

-- the contents grew by the pair that was placed
abbrev pub Adds : Result Pair ContentsFault → List Pair → List Pair → Type 0
Adds found old new = (pair : Pair) × (found ≡ Ok pair) × (new ≡ old ++ pair ∷ [])
