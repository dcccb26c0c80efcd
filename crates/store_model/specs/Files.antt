-- The files of an open package.
use Rattle.std.specs.Prelude.{ℕ, List, length, Option, Some, None}
use Rattle.pkg_names.specs.declared.root.Root.{Root}
use Rattle.far_archive.specs.Named.{file_named}
use Rattle.open_tracker.specs.Directories.{root_of}
use Rattle.package_book.specs.Book.{MetaAndFiles, outer_at}
use Rattle.store_model.specs.State.{State, stored_len}
use Rattle.store_model.specs.Packages.{known_book}

-- where a file is looked for, and what is found
pub data Found : Type 0 where
  -- the lane has no such directory open
  NotOpen : Found
  NoSuchFile : Found
  -- a file in the archive of the package, with its bytes
  Inner : List ℕ → Found
  -- a blob of its own
  Outer : Root → Found

abbrev pub found_outer : Option Root → Found
found_outer None = NoSuchFile
found_outer (Some root) = Outer root

-- a file in the archive comes first
abbrev pub found_in : MetaAndFiles → List ℕ → Option (List ℕ) → Found
found_in book file (Some bytes) = Inner bytes
found_in book file None = found_outer (outer_at file book.outer)

abbrev pub found_of : Option MetaAndFiles → List ℕ → Found
found_of None file = NoSuchFile
found_of (Some book) file = found_in book file (file_named file book.inner)

abbrev pub found_at : State → Option Root → List ℕ → Found
found_at s None file = NotOpen
found_at s (Some root) file = found_of (known_book s.books root) file

-- the file of the lane's directory with this number
abbrev pub found : State → ℕ → ℕ → List ℕ → Found
found s lane dir file = found_at s (root_of s.dirs dir lane) file

-- its length, where it is there
abbrev pub found_len : State → Found → Option ℕ
found_len s NotOpen = None
found_len s NoSuchFile = None
found_len s (Inner bytes) = Some (length bytes)
found_len s (Outer root) = stored_len s.stock root
