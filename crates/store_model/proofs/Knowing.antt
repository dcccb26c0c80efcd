-- What the books know after an event.
use Rattle.std.proofs.Common.{◌≡◌, ℕ, Bool, true, false, cond, ◌&&◌, List, [], ◌∷◌, ◌++◌, Option, Some, is_some, refl, ap, subst, ◌∙◌}
use Rattle.std.specs.Prelude.{nat_lt, not}
use Rattle.pkg_names.specs.declared.root.Root.{Root}
use Rattle.pkg_names.specs.Root.{root_eq}
use Rattle.package_book.specs.Books.{Meta, Books, book_at}
use Rattle.package_book.specs.Books.Meta.{Read, Long}
use Rattle.store_model.specs.declared.events.LookedAt.{LookedAt}
use Rattle.store_model.specs.declared.events.Event.{Event}
use Rattle.store_model.specs.State.{State, Stored, stored_len, is_stored, has_root, protected_in}
use Rattle.package_book.specs.declared.book.TheConstants.{META_LIMIT}
use Rattle.store_model.specs.Settling.{with_looked, with_long, looked_books, kept_books, settle, KnowsAll, HasLooked}
use Rattle.store_model.specs.Step.{IsDue, next_of, seen_by, step}
use Rattle.pkg_names.proofs.Roots.{root_eq-true, root_eq-refl}

-- what holds of both choices holds of the choice
pub cond_both : {A : Type 0} (P : A → Type 0) (test : Bool) (x y : A) → P x → P y → P (cond test x y)
cond_both P true x y p q = p
cond_both P false x y p q = q

-- the books know a root
abbrev pub Knows : Root → Books → Type 0
Knows root books = is_some (book_at books root) ≡ true

same_head : (test : Bool) (m : Meta) (x y : Option Meta) → (is_some x ≡ true → is_some y ≡ true) → is_some (cond test (Some m) x) ≡ true → is_some (cond test (Some m) y) ≡ true
same_head true m x y f h = refl
same_head false m x y f h = f h

pub knows_more : (books more : Books) (root : Root) → Knows root books → Knows root (books ++ more)
knows_more [] more root h = absurd cc
knows_more (b ∷ books) more root h = same_head (root_eq b.root root) b.meta (book_at books root) (book_at (books ++ more) root) (knows_more books more root) h

knows_last : (books : Books) (root : Root) (m : Meta) → Knows root (books ++ record { root = root; meta = m } ∷ [])
knows_last [] root m = rw (root_eq-refl root) refl
knows_last (b ∷ books) root m = first (root_eq b.root root) (knows_last books root m) where
  first : (test : Bool) → Knows root (books ++ record { root = root; meta = m } ∷ []) → is_some (cond test (Some b.meta) (book_at (books ++ record { root = root; meta = m } ∷ []) root)) ≡ true
  first true rest = refl
  first false rest = rest

pub knows_looked : (books : Books) (seen : List LookedAt) (root : Root) → Knows root books → Knows root (with_looked books seen)
knows_looked books [] root h = h
knows_looked books (pair ∷ seen) root h =
    cond_both (Knows root) (is_some (book_at books pair.root)) (with_looked books seen) (with_looked (books ++ record { root = pair.root; meta = Read pair.bytes } ∷ []) seen)
    (knows_looked books seen root h)
    (knows_looked (books ++ record { root = pair.root; meta = Read pair.bytes } ∷ []) seen root (knows_more books (record { root = pair.root; meta = Read pair.bytes } ∷ []) root h))

pub knows_long : (books : Books) (stock : List Stored) (root : Root) → Knows root books → Knows root (with_long books stock)
knows_long books [] root h = h
knows_long books (blob ∷ stock) root h =
    cond_both (Knows root) (nat_lt META_LIMIT blob.len && not (is_some (book_at books blob.root))) (with_long (books ++ record { root = blob.root; meta = Long blob.len } ∷ []) stock) (with_long books stock)
    (knows_long (books ++ record { root = blob.root; meta = Long blob.len } ∷ []) stock root (knows_more books (record { root = blob.root; meta = Long blob.len } ∷ []) root h))
    (knows_long books stock root h)

-- a blob that was looked at is known
pub knows_pair : (books : Books) (pair : LookedAt) → Knows pair.root (with_looked books (pair ∷ []))
knows_pair books pair = first (is_some (book_at books pair.root)) refl where
  first : (test : Bool) → is_some (book_at books pair.root) ≡ test → Knows pair.root (cond test books (books ++ record { root = pair.root; meta = Read pair.bytes } ∷ []))
  first true e = e
  first false e = knows_last books pair.root (Read pair.bytes)

-- so is a stored blob that is too long to be read
pub knows_stored_long : (books : Books) (stock : List Stored) (root : Root) (len : ℕ) → stored_len stock root ≡ Some len → nat_lt META_LIMIT len ≡ true → Knows root (with_long books stock)
knows_stored_long books [] root len at long = absurd cc
knows_stored_long books (blob ∷ stock) root len at long = first (root_eq blob.root root) refl (λ bs h. knows_stored_long bs stock root len h long) at where
  second : (test : Bool) → is_some (book_at books blob.root) ≡ test → nat_lt META_LIMIT blob.len ≡ true → Knows blob.root (cond (nat_lt META_LIMIT blob.len && not test) (with_long (books ++ record { root = blob.root; meta = Long blob.len } ∷ []) stock) (with_long books stock))
  second true e l = rw l (knows_long books stock blob.root e)
  second false e l = rw l (knows_long (books ++ record { root = blob.root; meta = Long blob.len } ∷ []) stock blob.root (knows_last books blob.root (Long blob.len)))

  first : (test : Bool) → root_eq blob.root root ≡ test → ((bs : Books) → stored_len stock root ≡ Some len → Knows root (with_long bs stock)) → cond test (Some blob.len) (stored_len stock root) ≡ Some len
      → Knows root (with_long books (blob ∷ stock))
  first true e rest h =
      let is_root : blob.root ≡ root = root_eq-true blob.root root e in
      let is_len : blob.len ≡ len = cc in
      subst (λ (r : Root). Knows r (with_long books (blob ∷ stock))) is_root (second (is_some (book_at books blob.root)) refl (ap (nat_lt META_LIMIT) is_len ∙ long))
  first false e rest h =
      cond_both (Knows root) (nat_lt META_LIMIT blob.len && not (is_some (book_at books blob.root))) (with_long (books ++ record { root = blob.root; meta = Long blob.len } ∷ []) stock) (with_long books stock)
      (rest (books ++ record { root = blob.root; meta = Long blob.len } ∷ []) h) (rest books h)

-- the books of packages that are kept
pub kept_same : (books : Books) (packages : List Root) (stock : List Stored) (root : Root) → has_root packages root ≡ true → is_stored stock root ≡ true
    → book_at (kept_books books packages stock) root ≡ book_at books root
kept_same [] packages stock root p q = refl
kept_same (b ∷ books) packages stock root p q = first (root_eq b.root root) refl (kept_same books packages stock root p q) where
  first : (test : Bool) → root_eq b.root root ≡ test → book_at (kept_books books packages stock) root ≡ book_at books root → book_at (cond (has_root packages b.root && is_stored stock b.root) (b ∷ kept_books books packages stock) (kept_books books packages stock)) root ≡ cond test (Some b.meta) (book_at books root)
  first true e rest =
      let same = root_eq-true b.root root e in
      let here : has_root packages b.root ≡ true = ap (has_root packages) same ∙ p in
      let there : is_stored stock b.root ≡ true = ap (is_stored stock) same ∙ q in
      rw (here, there, e) refl
  first false e rest =
      cond_both (λ (bs : Books). book_at bs root ≡ book_at books root) (has_root packages b.root && is_stored stock b.root) (b ∷ kept_books books packages stock) (kept_books books packages stock)
      (rw e rest) rest

-- the books know each protected package that is stored, once the event is over
pub known_settled : (seen : List LookedAt) (s : State) → HasLooked seen s → KnowsAll (settle seen s).books (protected_in s) s.stock
known_settled seen s looked root p q = ap (λ (m : Option Meta). is_some m) (kept_same (looked_books seen s) (protected_in s) s.stock root p q) ∙ looked root p q

pub known_after : (s : State) (number : ℕ) (e : Event) → IsDue s number e → KnowsAll (step s number e).books (protected_in (step s number e)) (step s number e).stock
known_after s number e due = known_settled (seen_by e.act) (next_of s number e) due.looked
