-- What a whole system is, in other words: by its package, its two lists and the packages of its base.
use Rattle.std.specs.Prelude.{ℕ, ◌≡◌, ◌≤◌, true, List, [], ◌∷◌, length, Option, Some, None, is_some, Ok}
use Rattle.std.specs.List.{AllByRecursion}
use Rattle.pkg_names.specs.declared.root.Root.{Root}
use Rattle.pkg_names.specs.declared.pinned.Pinned.{Pinned}
use Rattle.package_book.specs.Books.{book_at}
use Rattle.package_book.specs.Book.{MetaAndFiles, outer_at}
use Rattle.package_book.specs.Names.{names}
use Rattle.system_lists.specs.declared.list.TheConstants.{LIST_LIMIT}
use Rattle.system_lists.specs.Static.{static_of}
use Rattle.system_lists.specs.Cached.{cached_of}
use Rattle.system_lists.specs.Judging.{static_name, cached_name, system_path}
use Rattle.boot_core.specs.declared.looking.SeenBlob.{SeenBlob}
use Rattle.boot_core.specs.Look.{bytes_in}
use Rattle.boot_core.specs.Seen.{book_known, books_in}

-- the package is stored and a book, and each blob that it names is stored
pub record IsComplete (all : List SeenBlob) (root : Root) : Type 0 where
  pub bytes : List ℕ
  pub stored : bytes_in all root ≡ Some bytes
  pub book : MetaAndFiles
  pub is_book : book_known (book_at (books_in all) root) ≡ Some book
  pub named : AllByRecursion (λ name. is_some (bytes_in all name) ≡ true) (names root (books_in all))

-- a list that is stored, and short enough to be read
pub record HasList (all : List SeenBlob) (root : Root) : Type 0 where
  pub text : List ℕ
  pub stored : bytes_in all root ≡ Some text
  pub short : length text ≤ LIST_LIMIT

-- the cached list says these packages; without one there are none
abbrev pub IsCachedBy : List SeenBlob → Option Root → List Pinned → Type 0
IsCachedBy all None cached = cached ≡ []
IsCachedBy all (Some root) cached = (list : HasList all root) × (cached_of list.text ≡ Ok cached)

-- The system's package is complete and lists a static list, which says the packages of the base, each of
-- which is complete. The system package comes before them.
pub record IsCompleteSystem (all : List SeenBlob) (system : Root) (base cached : List Pinned) : Type 0 where
  pub own : IsComplete all system
  pub listed : Root
  pub lists : outer_at static_name own.book.outer ≡ Some listed
  pub list : HasList all listed
  pub packages : List Pinned
  pub says : static_of list.text ≡ Ok packages
  pub cached_says : IsCachedBy all (outer_at cached_name own.book.outer) cached
  pub base_is : base ≡ record { path = system_path; root = system } ∷ packages
  pub complete : AllByRecursion (λ (pair : Pinned). IsComplete all pair.root) packages
