-- The blobs that no protected package names.
use Rattle.std.specs.Prelude.{◌||◌, not, Bool, false, List, [], ◌∷◌, filter}
use Rattle.std.specs.List.{list_any}
use Rattle.pkg_names.specs.declared.root.Root.{Root}
use Rattle.pkg_names.specs.Root.{root_eq}
use Rattle.package_book.specs.Books.{Books}
use Rattle.package_book.specs.Names.{names}

-- the root is among these
abbrev pub has_root : List Root → Root → Bool
has_root roots root = list_any (λ other. root_eq other root) roots

-- one of these packages names the blob
abbrev pub is_named : List Root → Books → Root → Bool
is_named [] books root = false
is_named (top ∷ tops) books root = has_root (names top books) root || is_named tops books root

-- the roots of the stock that none of these packages names, in the order of the stock
abbrev pub unprotected : List Root → List Root → Books → List Root
unprotected stock protected books = filter (λ root. not (is_named protected books root)) stock
