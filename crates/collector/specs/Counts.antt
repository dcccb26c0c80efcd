-- Counts of roots, and what they come to where packages have gained their names.
use Rattle.std.specs.Prelude.{◌≡◌, ℕ, ◌+◌, ◌-◌, ◌^◌, ◌<◌, ◌≤◌, ◌==◌, List, filter, count_by}
use Rattle.std.specs.Option.{unwrap_or}
use Rattle.std.specs.Map.{lookup}
use Rattle.pkg_names.specs.declared.root.Root.{Root}
use Rattle.pkg_names.specs.Root.{root_eq}
use Rattle.package_book.specs.Books.{Books}
use Rattle.package_book.specs.Names.{names}
use Rattle.package_book.specs.Unprotected.{has_root}

-- roots with their counts
abbrev pub Tally : Type 0
Tally = List (Root × ℕ)

-- the count of a root: that of its entry, or 0
abbrev pub count_of : Tally → Root → ℕ
count_of tally root = unwrap_or (lookup (root_eq root) tally) 0

-- how often a root stands in a list
abbrev pub times : List Root → Root → ℕ
times roots root = count_by (λ other. root_eq other root) roots

-- where these roots are gained no count passes the end of its type
abbrev pub HasRoom : List Root → Tally → Type 0
HasRoom roots tally = (root : Root) → count_of tally root + times roots root < 2 ^ 128

-- each root was gained, and not lost since, as often as it stands in the list
abbrev pub IsGained : List Root → Tally → Type 0
IsGained roots tally = (root : Root) → times roots root ≤ count_of tally root

-- each count stayed
abbrev pub IsSame : Tally → Tally → Type 0
IsSame old new = (root : Root) → count_of new root ≡ count_of old root

-- each count rose by how often its root stands in the list
abbrev pub Gains : List Root → Tally → Tally → Type 0
Gains roots old new = (root : Root) → count_of new root ≡ count_of old root + times roots root

-- each count fell by as much
abbrev pub Loses : List Root → Tally → Tally → Type 0
Loses roots old new = (root : Root) → count_of new root ≡ count_of old root - times roots root

-- the roots of the stock whose count is 0, in the order of the stock
abbrev pub zeros : Tally → List Root → List Root
zeros tally stock = filter (λ root. count_of tally root == 0) stock

-- how many entries of a list of packages name the blob
abbrev pub namers : List Root → Books → Root → ℕ
namers tops books root = count_by (λ top. has_root (names top books) root) tops

-- each entry of the list has gained its package's names once: the count of a blob is the number of its namers
abbrev pub CountsNames : List Root → Books → Tally → Type 0
CountsNames tops books tally = (root : Root) → count_of tally root ≡ namers tops books root
