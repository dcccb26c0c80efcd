-- What a book and a shelf keep.
use Rattle.std.specs.Prelude.{◌≡◌, [], ◌∷◌, map}
use Rattle.std.specs.Option.{option_map}
use Rattle.std.specs.Ordering.{nat_cmp}
use Rattle.std.specs.Cmp.Lexicographic.{slice_cmp}
use Rattle.std.specs.declared.cmp.Ordering.{Ordering}
use Rattle.std.specs.BTreeMap.{BTreeMap, get}
use Rattle.pkg_names.specs.declared.root.Root.{Root}
use Rattle.package_book.specs.declared.shelf.Shelved.{Shelved}
use Rattle.package_book.specs.declared.shelf.Shelved.TheVariants.{Good, Bad}
use Rattle.package_book.specs.declared.fault.PackageFault.{PackageFault}
use Rattle.package_book.specs.declared.fault.PackageFault.TheVariants as faults
use Rattle.package_book.specs.Books.{Meta, Known, Books, book_at}
use Rattle.package_book.specs.Books.Meta.{Read, Long}
use Rattle.package_book.specs.Shelf.{shelved_of}

-- the order of the keys
abbrev pub root_cmp : Root → Root → Ordering
root_cmp a b = slice_cmp nat_cmp a.0 b.0

-- where no bytes are kept, the fault tells whether there were any
abbrev pub meta_without : PackageFault → Meta
meta_without (faults.Long len) = Long len
meta_without fault = Read []

-- the meta blob of an entry
abbrev pub meta_of : Shelved → Meta
meta_of (Good found) = Read found.meta
meta_of (Bad fault []) = meta_without fault
meta_of (Bad fault (byte ∷ bytes)) = Read (byte ∷ bytes)

abbrev pub known_by : Root × Shelved → Known
known_by entry = record { root = entry.0; meta = meta_of entry.1 }

-- the books that the entries of a shelf are seen as
abbrev pub books_in : BTreeMap Root Shelved → Books
books_in shelf = map known_by shelf.entries

-- each entry is what a shelf has of its meta blob
abbrev pub IsShelf : BTreeMap Root Shelved → Type 0
IsShelf shelf = (root : Root) → get root_cmp shelf root ≡ option_map shelved_of (book_at (books_in shelf) root)
