-- The blobs that a package names, by its book. What stands above knows names and levels by the three
-- laws at the end; only what computes the list knows the definitions.
use Rattle.std.specs.Prelude.{◌≡◌, List, [], ◌∷◌, Option, Some, None, Result, Ok, Err, Contains}
use Rattle.pkg_names.specs.declared.root.Root.{Root}
use Rattle.package_book.specs.declared.fault.PackageFault.{PackageFault}
use Rattle.package_book.specs.Books.{Meta, Books, book_at}
use Rattle.package_book.specs.Books.Meta.{Read, Long}
use Rattle.package_book.specs.Book.{MetaAndFiles, book, outer_roots, each_once}

abbrev pub roots_from : Result MetaAndFiles PackageFault → List Root
roots_from (Ok found) = outer_roots found.outer
roots_from (Err fault) = []

-- the blobs that a meta blob lists: the outer roots of its book, and none where it is no book
unfoldable pub listed_roots : Meta → List Root
listed_roots (Read bytes) = roots_from (book bytes)
listed_roots (Long len) = []

abbrev pub roots_known : Option Meta → List Root
roots_known None = []
roots_known (Some meta) = listed_roots meta

-- the packages whose books give the names of a package: itself
unfoldable pub levels : Root → Books → List Root
levels top books = top ∷ []

-- the names of a package: itself, and then the outer roots of its book in the order of their lines, each once
unfoldable pub names : Root → Books → List Root
names top books = each_once (top ∷ roots_known (book_at books top))

-- ---- the three laws

-- the package is in its levels, and each root of its levels is among its names
pub record HasItself (top : Root) (books : Books) : Type 0 where
  pub level : Contains (levels top books) top
  pub named : (root : Root) → Contains (levels top books) root → Contains (names top books) root

-- two lists of books know the same of each of these packages
abbrev pub AgreeOn : List Root → Books → Books → Type 0
AgreeOn tops books others = (root : Root) → Contains tops root → book_at books root ≡ book_at others root

-- books that agree on the levels of a package give it the same levels and names
pub record DependsOn (top : Root) (books others : Books) : Type 0 where
  pub levels : levels top books ≡ levels top others
  pub names : names top books ≡ names top others

-- the root is listed by the book of one of the package's levels
pub record IsListed (top root : Root) (books : Books) : Type 0 where
  pub by : Root
  pub meta : Meta
  pub level : Contains (levels top books) by
  pub known : book_at books by ≡ Some meta
  pub listed : Contains (listed_roots meta) root
