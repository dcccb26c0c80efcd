-- What looks at blobs leave of the books, and of what the event tells.
use Rattle.std.specs.Prelude.{◌≡◌, ◌≤◌, ◌||◌, ℕ, true, List, [], ◌∷◌, map, length, Some, is_some}
use Rattle.pkg_names.specs.declared.root.Root.{Root}
use Rattle.package_book.specs.declared.book.TheConstants.{META_LIMIT}
use Rattle.package_book.specs.Books.{book_at}
use Rattle.store_model.specs.declared.events.LookedAt.{LookedAt}
use Rattle.store_model.specs.State.{State, has_root}
use Rattle.store_model.specs.Systems.{seen_bytes}
use Rattle.plain_state.specs.Learning.{first_known, looked_at}

-- the books learn what these blobs are, unless they know them
pub record LearnsAll (seen : List LookedAt) (old new : State) : Type 0 where
  pub rest : new ≡ record old { books = new.books }
  pub books : (other : Root) → book_at new.books other ≡ first_known (book_at old.books other) (looked_at seen other)

-- each of these has the bytes that are stored, and isn't too long to be read
abbrev pub AreFrom : List LookedAt → List LookedAt → Type 0
AreFrom contents [] = Unit {0}
AreFrom contents (pair ∷ pairs) =
    (seen_bytes contents pair.root ≡ Some pair.bytes) × (length pair.bytes ≤ META_LIMIT) × AreFrom contents pairs

abbrev pub roots_seen : List LookedAt → List Root
roots_seen seen = map (λ (pair : LookedAt). pair.root) seen

-- From what was seen to more: it is in the contents, the books learn it, and what was seen or known stays so.
pub record Sees (contents seen more : List LookedAt) (old new : State) : Type 0 where
  pub learns : (t : State) → LearnsAll seen t old → LearnsAll more t new
  pub from : AreFrom contents seen → AreFrom contents more
  pub stays : (root : Root) → is_some (seen_bytes seen root) ≡ true → is_some (seen_bytes more root) ≡ true
  pub known : (root : Root) → is_some (book_at old.books root) ≡ true
      → book_at new.books root ≡ book_at old.books root

-- of these blobs alone more were seen
abbrev pub AreAmong : List Root → List LookedAt → List LookedAt → Type 0
AreAmong roots seen more =
    (root : Root) → is_some (seen_bytes more root) ≡ true
    → (has_root roots root || is_some (seen_bytes seen root)) ≡ true

-- the blob was seen, if it is in the contents and isn't too long to be read
abbrev pub IsLookedAt : List LookedAt → List LookedAt → Root → Type 0
IsLookedAt contents seen root = (bytes : List ℕ) → seen_bytes contents root ≡ Some bytes → length bytes ≤ META_LIMIT
    → is_some (seen_bytes seen root) ≡ true

-- so the books know the package
abbrev pub IsLearned : List LookedAt → State → Root → Type 0
IsLearned contents s root = (bytes : List ℕ) → seen_bytes contents root ≡ Some bytes → length bytes ≤ META_LIMIT
    → is_some (book_at s.books root) ≡ true

-- each of these
abbrev pub AreLearned : List LookedAt → List Root → State → Type 0
AreLearned contents roots s = (root : Root) → has_root roots root ≡ true → IsLearned contents s root
