-- What was looked at of a store, and what is at hand of a system by it.
use Rattle.std.specs.Prelude.{ℕ, ◌≡◌, ◌<◌, ◌≤◌, ⊤, nat_lt, true, List, [], ◌∷◌, length, Option, Some, None, is_some, Result, Ok, Err, IfSome, if◌then◌else◌}
use Rattle.pkg_names.specs.declared.root.Root.{Root}
use Rattle.package_book.specs.declared.book.TheConstants.{META_LIMIT}
use Rattle.package_book.specs.declared.fault.PackageFault.{PackageFault}
use Rattle.package_book.specs.Books.{Meta, Books, book_at}
use Rattle.package_book.specs.Books.Meta.{Read, Long}
use Rattle.package_book.specs.Book.{MetaAndFiles, book, outer_at}
use Rattle.package_book.specs.Names.{names}
use Rattle.system_lists.specs.Judging.{AtHand}
use Rattle.boot_core.specs.declared.looking.SeenBlob.{SeenBlob}
use Rattle.boot_core.specs.declared.seen.Seen.{Seen}
use Rattle.boot_core.specs.Look.{Stocked, len_in, bytes_in, IsBlob}

-- ---- books

abbrev pub the_book : Result MetaAndFiles PackageFault → Option MetaAndFiles
the_book (Ok found) = Some found
the_book (Err fault) = None

-- the book of a package of which this is known, where it is one
abbrev pub book_known : Option Meta → Option MetaAndFiles
book_known None = None
book_known (Some (Read bytes)) = the_book (book bytes)
book_known (Some (Long len)) = None

abbrev pub outer_of : Option MetaAndFiles → List ℕ → Option Root
outer_of None path = None
outer_of (Some found) path = outer_at path found.outer

-- blobs as the meta blobs of packages: one that is too long is known by its length
abbrev pub meta_of : List ℕ → Meta
meta_of bytes = if nat_lt META_LIMIT (length bytes) then Long (length bytes) else Read bytes

abbrev pub books_in : List SeenBlob → Books
books_in [] = []
books_in (blob ∷ blobs) = record { root = blob.root; meta = meta_of blob.bytes } ∷ books_in blobs

-- what is at hand of a system: which blobs are stored, what is known of packages, and the bytes of blobs
abbrev pub hand : List Stocked → Books → List SeenBlob → AtHand
hand stock books blobs = record {
  len = len_in stock;
  is_kept = λ root. true;
  is_book = λ root. is_some (book_known (book_at books root));
  names = λ root. names root books;
  outer = λ root path. outer_of (book_known (book_at books root)) path;
  bytes = bytes_in blobs;
}

-- all that can be at hand: the blobs with their bytes
abbrev pub hand_of : List SeenBlob → List Stocked → AtHand
hand_of all stock = hand stock (books_in all) all

-- ---- what was looked at

-- a blob that was looked at is a stored one with its bytes, or one that is too long
abbrev pub IsEntry : List Stocked → Root → Option Meta → Option (List ℕ) → Type 0
IsEntry stock root None None = ⊤
IsEntry stock root None (Some bytes) = ⊥
IsEntry stock root (Some (Read meta)) None = ⊥
IsEntry stock root (Some (Read meta)) (Some bytes) =
    (meta ≡ bytes) × (length bytes ≤ META_LIMIT) × IsBlob stock root bytes
IsEntry stock root (Some (Long len)) None = (META_LIMIT < len) × (len_in stock root ≡ Some len)
IsEntry stock root (Some (Long len)) (Some bytes) = ⊥

-- where all bytes are told, it has those
abbrev pub IsToldEntry : List SeenBlob → Root → Option Meta → Option (List ℕ) → Type 0
IsToldEntry all root None bytes = ⊤
IsToldEntry all root (Some (Read meta)) bytes = bytes_in all root ≡ Some meta
IsToldEntry all root (Some (Long len)) bytes = (text : List ℕ) × (bytes_in all root ≡ Some text) × (length text ≡ len)

-- books and bytes are those of blobs that were looked at
abbrev pub AreEntries : List Stocked → Books → List SeenBlob → Type 0
AreEntries stock books blobs = (root : Root) → IsEntry stock root (book_at books root) (bytes_in blobs root)

abbrev pub AreToldEntries : List SeenBlob → Books → List SeenBlob → Type 0
AreToldEntries all books blobs = (root : Root) → IsToldEntry all root (book_at books root) (bytes_in blobs root)

pub record AreSeen (stock : List Stocked) (told : Option (List SeenBlob)) (seen : Seen) : Type 0 where
  pub entries : AreEntries stock seen.books seen.blobs.items
  pub as_told : IfSome told (λ all. AreToldEntries all seen.books seen.blobs.items)
