-- What an event that looked at blobs leaves in the books. The books know each protected package that
-- is stored, and no other.
use Rattle.std.specs.Prelude.{◌≡◌, ◌≤◌, ◌&&◌, not, nat_lt, true, List, [], ◌∷◌, ◌++◌, length, Some, is_some, if◌then◌else◌}
use Rattle.pkg_names.specs.declared.root.Root.{Root}
use Rattle.pkg_merkle.specs.Merkle.{merkle_root}
use Rattle.package_book.specs.declared.book.TheConstants.{META_LIMIT}
use Rattle.package_book.specs.Books.{Books, book_at}
use Rattle.package_book.specs.Books.Meta.{Read, Long}
use Rattle.store_model.specs.declared.events.LookedAt.{LookedAt}
use Rattle.store_model.specs.State.{Stored, State, stored_len, is_stored, has_root, protected_in}

-- the books, with the blobs that were looked at and aren't known
abbrev pub with_looked : Books → List LookedAt → Books
with_looked books [] = books
with_looked books (pair ∷ pairs) =
    if is_some (book_at books pair.root) then with_looked books pairs else with_looked
    (books ++ record { root = pair.root; meta = Read pair.bytes } ∷ []) pairs

-- the books, with the lengths of the stored blobs that are too long to be read
abbrev pub with_long : Books → List Stored → Books
with_long books [] = books
with_long books (blob ∷ blobs) =
    if nat_lt META_LIMIT blob.len && not (is_some (book_at books blob.root)) then with_long
    (books ++ record { root = blob.root; meta = Long blob.len } ∷ []) blobs
    else with_long books blobs

-- the books of the protected packages that are stored
abbrev pub kept_books : Books → List Root → List Stored → Books
kept_books [] packages stock = []
kept_books (book ∷ books) packages stock =
    if has_root packages book.root && is_stored stock book.root then book ∷ kept_books books packages stock
    else kept_books books packages stock

-- the books after an event that looked at these blobs, before those of other packages go
abbrev pub looked_books : List LookedAt → State → Books
looked_books seen s = with_long (with_looked s.books seen) s.stock

-- the state after an event that looked at these blobs, from the state that its act leaves
abbrev pub settle : List LookedAt → State → State
settle seen s = record s { books = kept_books (looked_books seen s) (protected_in s) s.stock }

-- the books know each of these packages that is stored
abbrev pub KnowsAll : Books → List Root → List Stored → Type 0
KnowsAll books packages stock =
    (root : Root) → has_root packages root ≡ true → is_stored stock root ≡ true → is_some (book_at books root) ≡ true

-- the event looked at all that the books have to know
abbrev pub HasLooked : List LookedAt → State → Type 0
HasLooked seen s = KnowsAll (looked_books seen s) (protected_in s) s.stock

-- Each blob that was looked at has its root, is stored with its length after the event, and is short enough to be kept.
abbrev pub IsSeen : List LookedAt → List Stored → Type 0
IsSeen [] stock = Unit {0}
IsSeen (pair ∷ pairs) stock =
    (merkle_root pair.bytes ≡ pair.root) × (stored_len stock pair.root ≡ Some (length pair.bytes)) ×
    (length pair.bytes ≤ META_LIMIT) × IsSeen pairs stock
