-- What is known of the meta blobs of packages.
use Rattle.std.specs.Prelude.{◌≡◌, ℕ, List, [], ◌∷◌, Option, Some, None, if◌then◌else◌}
use Rattle.pkg_names.specs.declared.root.Root.{Root}
use Rattle.pkg_names.specs.Root.{root_eq}

-- the bytes of a meta blob, or its length alone, where it is longer than any meta blob may be
pub data Meta : Type 0 where
  Read : List ℕ → Meta
  Long : ℕ → Meta

pub record Known : Type 0 where
  pub root : Root
  pub meta : Meta

abbrev pub Books : Type 0
Books = List Known

-- what is known of a package: its first entry
abbrev pub book_at : Books → Root → Option Meta
book_at [] root = None
book_at (book ∷ books) root = if root_eq book.root root then Some book.meta else book_at books root

-- the books as a map are the old ones, but for the entry of this root: it is the given one, or there is none
abbrev pub Sets : Root → Option Meta → Books → Books → Type 0
Sets root entry old new =
    (other : Root) → book_at new other ≡ (if root_eq root other then entry else book_at old other)
