-- What the books of a state learn and forget, while all else of it stays; and when an event has settled them.
use Rattle.std.specs.Prelude.{◌≡◌, ◌≢◌, ℕ, ◌&&◌, not, nat_lt, true, false, List, [], ◌∷◌, Option, Some, None, is_some, if◌then◌else◌}
use Rattle.std.specs.List.{AllPairs}
use Rattle.std.specs.Option.{option_map}
use Rattle.open_tracker.specs.declared.dirs.DirEntry.{DirEntry}
use Rattle.pkg_names.specs.declared.root.Root.{Root}
use Rattle.pkg_names.specs.Root.{root_eq}
use Rattle.package_indexes.specs.Indexes.{root_at}
use Rattle.package_book.specs.declared.book.TheConstants.{META_LIMIT}
use Rattle.package_book.specs.Books.{Meta, Sets, book_at}
use Rattle.package_book.specs.Books.Meta.{Read, Long}
use Rattle.store_model.specs.declared.events.LookedAt.{LookedAt}
use Rattle.store_model.specs.Mirrors.{Mirrors}
use Rattle.store_model.specs.State.{State, Stored, Arrival, stored_len, is_stored, has_root, protected_in}
use Rattle.store_model.specs.Sound.{KnowsExactly}
use Rattle.store_model.specs.Settling.{settle, HasLooked}
use Rattle.store_model.specs.Systems.{seen_bytes}
use Rattle.store_model.specs.Acts.Begin.{has_to_read}

-- the first of two that is known
abbrev pub first_known : Option Meta → Option Meta → Option Meta
first_known (Some meta) other = Some meta
first_known None other = other

-- what is learned of this root, and nothing of others
abbrev pub at_root : Root → Option Meta → Root → Option Meta
at_root root learned other = if root_eq root other then learned else None

-- the books learn this of a package, unless they know it
pub record Learns (root : Root) (learned : Option Meta) (old new : State) : Type 0 where
  pub rest : new ≡ record old { books = new.books }
  pub books : (other : Root) → book_at new.books other
      ≡ first_known (book_at old.books other) (at_root root learned other)

-- they forget one package
pub record Unlearns (root : Root) (old new : State) : Type 0 where
  pub rest : new ≡ record old { books = new.books }
  pub books : Sets root None old.books new.books

-- they forget those of these packages that aren't protected
pub record Forgets (roots : List Root) (old new : State) : Type 0 where
  pub rest : new ≡ record old { books = new.books }
  pub books : (other : Root) → book_at new.books other
      ≡ (if has_root roots other && not (has_root (protected_in old) other) then None else book_at old.books other)

-- An event that looked at these blobs, and whose act leaves the state n but for the books, has looked at
-- all that it had to; and this is the state after it.
pub record IsSettled (seen : List LookedAt) (n new : State) : Type 0 where
  pub looked : HasLooked seen n
  pub state : Mirrors (settle seen n) new

-- what the blobs that an event looked at tell of a package
abbrev pub looked_at : List LookedAt → Root → Option Meta
looked_at seen root = option_map Read (seen_bytes seen root)

-- what the length of a stored blob tells
abbrev pub long_of : Option ℕ → Option Meta
long_of None = None
long_of (Some len) = if nat_lt META_LIMIT len then Some (Long len) else None

-- what an event tells of a package: its bytes, or its length, if it is stored and too long to be read
abbrev pub told_at : List LookedAt → List Stored → Root → Option Meta
told_at seen stock root = first_known (looked_at seen root) (long_of (stored_len stock root))

abbrev pub told_of : List Root → List LookedAt → List Stored → Root → Option Meta
told_of roots seen stock root = if has_root roots root then told_at seen stock root else None

-- they learn the lengths of those of these packages that are stored and too long to be read
pub record LearnsLengths (roots : List Root) (old new : State) : Type 0 where
  pub rest : new ≡ record old { books = new.books }
  pub books : (other : Root) → book_at new.books other ≡ first_known (book_at old.books other)
      (if has_root roots other then long_of (stored_len old.stock other) else None)

-- what they have learned is of these packages, and these are stored
pub record LearnsAmong (roots : List Root) (old new : State) : Type 0 where
  pub rest : new ≡ record old { books = new.books }
  pub known : (other : Root) → is_some (book_at old.books other) ≡ true
      → book_at new.books other ≡ book_at old.books other
  pub among : (other : Root) → is_some (book_at old.books other) ≡ false
      → is_some (book_at new.books other) ≡ true → (has_root roots other && is_stored old.stock other) ≡ true

-- they learn what an event that looked at these blobs tells of these packages, and it looked at those that had
-- to be read
pub record LearnsOf (roots : List Root) (seen : List LookedAt) (old new : State) : Type 0 where
  pub rest : new ≡ record old { books = new.books }
  pub books : (other : Root) → book_at new.books other
      ≡ first_known (book_at old.books other) (told_of roots seen old.stock other)
  pub read : (root : Root) → has_root roots root ≡ true → has_to_read old root ≡ true
      → is_some (seen_bytes seen root) ≡ true

-- what is read of a package that is to be learned, as the event tells it
abbrev pub seen_of : Root → Option (List ℕ) → List LookedAt
seen_of root None = []
seen_of root (Some bytes) = record { root = root; bytes = bytes } ∷ []

-- the root that there is, as a list
abbrev pub listed : Option Root → List Root
listed None = []
listed (Some root) = root ∷ []

-- What each call rests on: the books know exactly what is protected and stored, and no ticket and no
-- directory stands twice.
pub record IsReady (s : State) : Type 0 where
  pub books : KnowsExactly s.books (protected_in s) s.stock
  pub tickets : AllPairs (λ (a b : Arrival). a.ticket ≢ b.ticket) s.arriving
  pub dirs : AllPairs (λ (a b : DirEntry). a.number ≢ b.number) s.dirs

-- the root that is active under the package's path until it is opened
abbrev pub replaced_by : State → Option Arrival → List Root
replaced_by s None = []
replaced_by s (Some arrival) =
    if is_some (root_at s.base arrival.path) then [] else listed (root_at s.active arrival.path)
