-- A pool is seen as one flag a page: whether the page is taken.
use Rattle.std.specs.Prelude.{ℕ, ◌≡◌, ◌≢◌, Bool, true, false, not, List, [], ◌∷◌, slice_index_or, slice_set}
use Rattle.std.specs.List.{AllPairs, count_by}

-- the pool has the page, and it is taken; the pool has it, and it is free
abbrev pub IsTaken : List Bool → ℕ → Type 0
IsTaken flags page = slice_index_or flags page false ≡ true

abbrev pub IsFree : List Bool → ℕ → Type 0
IsFree flags page = slice_index_or flags page true ≡ false

-- how many pages are free, and how many are taken
abbrev pub free_count : List Bool → ℕ
free_count flags = count_by not flags

abbrev pub taken_count : List Bool → ℕ
taken_count flags = count_by (λ flag. flag) flags

-- the flags after these pages get this one
abbrev pub with_flags : Bool → List ℕ → List Bool → List Bool
with_flags flag [] flags = flags
with_flags flag (page ∷ pages) flags = with_flags flag pages (slice_set flags page flag)

-- no page stands twice
abbrev pub AreDistinct : List ℕ → Type 0
AreDistinct pages = AllPairs (λ a b. a ≢ b) pages
