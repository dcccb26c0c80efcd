-- What the books say of packages, and what room there is for blobs.
use Rattle.std.specs.Prelude.{ℕ, ◌+◌, ◌-◌, ◌/◌, ◌&&◌, max, Bool, List, [], ◌∷◌, length, filter, Option, Some, None, is_some, option_and_then, Result, Ok, Err}
use Rattle.std.specs.List.{list_all}
use Rattle.pkg_names.specs.declared.root.Root.{Root}
use Rattle.fetch_queue.specs.declared.queue.ClaimEntry.{ClaimEntry}
use Rattle.package_book.specs.declared.fault.PackageFault.{PackageFault}
use Rattle.package_book.specs.declared.fault.PackageFault.TheVariants as faults
use Rattle.package_book.specs.Books.{Meta, Books, book_at}
use Rattle.package_book.specs.Books.Meta.{Read, Long}
use Rattle.package_book.specs.Book.{MetaAndFiles, book}
use Rattle.package_book.specs.Names.{names}
use Rattle.package_book.specs.Unprotected.{unprotected}
use Rattle.store_model.specs.State.{State, Stored, is_stored, stock_roots, protected_in}

-- ---- books

-- the book of what is known of a package, or why it is none
abbrev pub book_of : Meta → Result MetaAndFiles PackageFault
book_of (Read bytes) = book bytes
book_of (Long len) = Err (faults.Long len)

abbrev pub the_book : Result MetaAndFiles PackageFault → Option MetaAndFiles
the_book (Ok found) = Some found
the_book (Err fault) = None

abbrev pub the_fault : Result MetaAndFiles PackageFault → Option PackageFault
the_fault (Ok found) = None
the_fault (Err fault) = Some fault

-- the book of a package, where it is known and is one
abbrev pub known_book : Books → Root → Option MetaAndFiles
known_book books root = option_and_then (λ meta. the_book (book_of meta)) (book_at books root)

-- why a known package is no package
abbrev pub known_fault : Books → Root → Option PackageFault
known_fault books root = option_and_then (λ meta. the_fault (book_of meta)) (book_at books root)

-- the package is a book, and all blobs that it names are stored
abbrev pub is_complete : State → Root → Bool
is_complete s root = is_some (known_book s.books root) && list_all (is_stored s.stock) (names root s.books)

-- the blobs that no protected package names
abbrev pub rest : State → List Root
rest s = unprotected (stock_roots s.stock) (protected_in s) s.books

-- ---- room

-- the pages of a blob of this length
abbrev pub pages_of : ℕ → ℕ
pages_of len = max 1 ((len + 4095) / 4096)

abbrev pub stock_pages : List Stored → ℕ
stock_pages [] = 0
stock_pages (blob ∷ blobs) = pages_of blob.len + stock_pages blobs

abbrev pub room_pages : Option ℕ → ℕ
room_pages None = 0
room_pages (Some len) = pages_of len

-- the pages of the blobs that room was made for
abbrev pub claim_pages : List ClaimEntry → ℕ
claim_pages [] = 0
claim_pages (claim ∷ claims) = room_pages claim.len + claim_pages claims

-- the pages that neither a stored blob has nor one that room was made for
abbrev pub free_pages : State → ℕ
free_pages s = s.geometry.data_pages - (stock_pages s.stock + claim_pages s.claims)

-- how many blobs are stored, or have room made for them
abbrev pub nodes : State → ℕ
nodes s = length s.stock + length (filter (λ (claim : ClaimEntry). is_some claim.len) s.claims)
