-- What a stock keeps beside its blobs.
use Rattle.std.specs.Prelude.{◌≡◌, ℕ, ◌-◌, ◌^◌, min, List, Option, Some, None}
use Rattle.std.specs.Ordering.{nat_cmp}
use Rattle.std.specs.Cmp.Lexicographic.{slice_cmp}
use Rattle.std.specs.declared.cmp.Ordering.{Ordering}
use Rattle.std.specs.BTreeMap.{BTreeMap, get}
use Rattle.pkg_names.specs.declared.root.Root.{Root}
use Rattle.store_model.specs.State.{Stored, stored_len}
use Rattle.store_model.specs.Packages.{stock_pages}

-- the order of the keys
abbrev pub root_cmp : Root → Root → Ordering
root_cmp a b = slice_cmp nat_cmp a.0 b.0

-- the first of two lengths
abbrev pub first_len : Option ℕ → Option ℕ → Option ℕ
first_len (Some len) other = Some len
first_len None other = other

-- the lengths are those of the blobs, and the pages are theirs, unless they are too many to count
pub record IsStock (blobs : List Stored) (lens : BTreeMap Root ℕ) (pages : ℕ) : Type 0 where
  pub known : (root : Root) → get root_cmp lens root ≡ stored_len blobs root
  pub count : pages ≡ min (stock_pages blobs) (2 ^ 64 - 1)
