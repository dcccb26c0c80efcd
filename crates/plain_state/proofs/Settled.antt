-- How an event leaves the books, where the store keeps them by what it learns and forgets.
use Rattle.std.proofs.Common.{◌≡◌, ℕ, Bool, true, false, cond, ◌&&◌, not, inl, inr, List, [], ◌∷◌, ◌++◌, Option, Some, None, is_some, refl, sym, ap, ap₂, ◌∙◌}
use Rattle.std.specs.Prelude.{nat_lt}
use Rattle.std.specs.Option.{option_map}
use Rattle.std.proofs.lemmas.Bool.{cases_Bool, true≢false, and_parts, and_from, and_right, not_from_true, not_from_false}
use Rattle.pkg_names.specs.declared.root.Root.{Root}
use Rattle.pkg_names.specs.Root.{root_eq}
use Rattle.pkg_names.proofs.Roots.{root_eq-true}
use Rattle.package_book.specs.declared.book.TheConstants.{META_LIMIT}
use Rattle.package_book.specs.Books.{Meta, Known, Books, book_at}
use Rattle.package_book.specs.Books.Meta.{Read, Long}
use Rattle.store_model.specs.declared.events.LookedAt.{LookedAt}
use Rattle.store_model.specs.State.{State, Stored, stored_len, is_stored, has_root, protected_in}
use Rattle.store_model.specs.Systems.{seen_bytes}
use Rattle.store_model.specs.Settling.{with_looked, with_long, looked_books}
use Rattle.store_model.specs.Sound.{KnowsExactly}
use Rattle.store_model.proofs.SameBooks.{kept_at, with_books}
use Rattle.plain_state.specs.Learning.{first_known, looked_at, long_of, told_at, IsSettled}

-- ---- look-ups in the books of an event that looked at blobs

first_none : (m : Option Meta) → m ≡ first_known m None
first_none None = refl
first_none (Some meta) = refl

first_thrice : (a b c : Option Meta) → first_known (first_known a b) c ≡ first_known a (first_known b c)
first_thrice None b c = refl
first_thrice (Some meta) b c = refl

pub first_of_some : (m other : Option Meta) → is_some m ≡ true → first_known m other ≡ m
first_of_some None other h = absurd cc
first_of_some (Some meta) other h = refl

is_none : (m : Option Meta) → is_some m ≡ false → m ≡ None
is_none None h = refl
is_none (Some meta) h = absurd cc

at_more : (books : Books) (k : Known) (root : Root) → book_at (books ++ k ∷ []) root ≡ first_known (book_at books root) (cond (root_eq k.root root) (Some k.meta) None)
at_more [] k root = refl
at_more (b ∷ books) k root = first (root_eq b.root root) (at_more books k root) where
  first : (test : Bool) → book_at (books ++ k ∷ []) root ≡ first_known (book_at books root) (cond (root_eq k.root root) (Some k.meta) None)
      → cond test (Some b.meta) (book_at (books ++ k ∷ []) root) ≡ first_known (cond test (Some b.meta) (book_at books root)) (cond (root_eq k.root root) (Some k.meta) None)
  first true rest = refl
  first false rest = rest

-- one entry more, where the books lack it, and what is known after it
more_then : (books : Books) (k : Known) (root : Root) (later : Option Meta) (known : Bool) → is_some (book_at books k.root) ≡ known
    → first_known (book_at (cond known books (books ++ k ∷ [])) root) later
    ≡ first_known (book_at books root) (first_known (cond (root_eq k.root root) (Some k.meta) None) later)
more_then books k root later false h =
    ap (λ (m : Option Meta). first_known m later) (at_more books k root)
    ∙ first_thrice (book_at books root) (cond (root_eq k.root root) (Some k.meta) None) later
more_then books k root later true h = second (root_eq k.root root) refl where
  second : (test : Bool) → root_eq k.root root ≡ test → first_known (book_at books root) later ≡ first_known (book_at books root) (first_known (cond test (Some k.meta) None) later)
  second false e = refl
  second true e =
      let known : is_some (book_at books root) ≡ true = ap (λ (r : Root). is_some (book_at books r)) (sym (root_eq-true k.root root e)) ∙ h in
      first_of_some (book_at books root) later known ∙ sym (first_of_some (book_at books root) (Some k.meta) known)

with_looked_at : (seen : List LookedAt) (books : Books) (root : Root) → book_at (with_looked books seen) root ≡ first_known (book_at books root) (looked_at seen root)
with_looked_at [] books root = first_none (book_at books root)
with_looked_at (pair ∷ seen) books root = first (is_some (book_at books pair.root)) refl (λ others. with_looked_at seen others root) where
  last : (test : Bool) → first_known (cond test (Some (Read pair.bytes)) None) (looked_at seen root) ≡ option_map Read (cond test (Some pair.bytes) (seen_bytes seen root))
  last true = refl
  last false = refl

  first : (known : Bool) → is_some (book_at books pair.root) ≡ known → ((others : Books) → book_at (with_looked others seen) root ≡ first_known (book_at others root) (looked_at seen root))
      → book_at (cond known (with_looked books seen) (with_looked (books ++ record { root = pair.root; meta = Read pair.bytes } ∷ []) seen)) root
      ≡ first_known (book_at books root) (looked_at (pair ∷ seen) root)
  first true h later =
      later books
      ∙ more_then books (record { root = pair.root; meta = Read pair.bytes }) root (looked_at seen root) true h
      ∙ ap (first_known (book_at books root)) (last (root_eq pair.root root))
  first false h later =
      later (books ++ record { root = pair.root; meta = Read pair.bytes } ∷ [])
      ∙ more_then books (record { root = pair.root; meta = Read pair.bytes }) root (looked_at seen root) false h
      ∙ ap (first_known (book_at books root)) (last (root_eq pair.root root))

-- the length of the first blob with this root that is too long to be read
abbrev pub long_at : List Stored → Root → Option Meta
long_at [] root = None
long_at (blob ∷ stock) root =
    cond (root_eq blob.root root) (cond (nat_lt META_LIMIT blob.len) (Some (Long blob.len)) (long_at stock root)) (long_at stock root)

with_long_at : (stock : List Stored) (books : Books) (root : Root) → book_at (with_long books stock) root ≡ first_known (book_at books root) (long_at stock root)
with_long_at [] books root = first_none (book_at books root)
with_long_at (blob ∷ stock) books root = first (nat_lt META_LIMIT blob.len) (is_some (book_at books blob.root)) refl (λ others. with_long_at stock others root) where
  same : (test : Bool) → long_at stock root ≡ cond test (long_at stock root) (long_at stock root)
  same true = refl
  same false = refl

  last : (test : Bool) → first_known (cond test (Some (Long blob.len)) None) (long_at stock root) ≡ cond test (Some (Long blob.len)) (long_at stock root)
  last true = refl
  last false = refl

  first : (long known : Bool) → is_some (book_at books blob.root) ≡ known → ((others : Books) → book_at (with_long others stock) root ≡ first_known (book_at others root) (long_at stock root))
      → book_at (cond (long && not known) (with_long (books ++ record { root = blob.root; meta = Long blob.len } ∷ []) stock) (with_long books stock)) root
      ≡ first_known (book_at books root) (cond (root_eq blob.root root) (cond long (Some (Long blob.len)) (long_at stock root)) (long_at stock root))
  first false known h later = later books ∙ ap (first_known (book_at books root)) (same (root_eq blob.root root))
  first true true h later =
      later books
      ∙ more_then books (record { root = blob.root; meta = Long blob.len }) root (long_at stock root) true h
      ∙ ap (first_known (book_at books root)) (last (root_eq blob.root root))
  first true false h later =
      later (books ++ record { root = blob.root; meta = Long blob.len } ∷ [])
      ∙ more_then books (record { root = blob.root; meta = Long blob.len }) root (long_at stock root) false h
      ∙ ap (first_known (book_at books root)) (last (root_eq blob.root root))

-- a stored blob that is too long to be read tells its length
pub stored_long : (stock : List Stored) (root : Root) (len : ℕ) → stored_len stock root ≡ Some len → nat_lt META_LIMIT len ≡ true → long_at stock root ≡ Some (Long len)
stored_long [] root len at long = absurd cc
stored_long (blob ∷ stock) root len at long = first (root_eq blob.root root) at (λ later. stored_long stock root len later long) where
  first : (test : Bool) → cond test (Some blob.len) (stored_len stock root) ≡ Some len → (stored_len stock root ≡ Some len → long_at stock root ≡ Some (Long len))
      → cond test (cond (nat_lt META_LIMIT blob.len) (Some (Long blob.len)) (long_at stock root)) (long_at stock root) ≡ Some (Long len)
  first true e later =
      let same : blob.len ≡ len = cc in
      let here : nat_lt META_LIMIT blob.len ≡ true = ap (nat_lt META_LIMIT) same ∙ long in
      rw here (ap (λ (n : ℕ). Some (Long n)) same)
  first false e later = later e

-- where the event tells something of a root, the books learn just that
abbrev pub learnt_at : List LookedAt → List Stored → Root → Option Meta
learnt_at seen stock root = first_known (looked_at seen root) (long_at stock root)

learnt_is_told : (seen : List LookedAt) (stock : List Stored) (root : Root) → is_some (told_at seen stock root) ≡ true → learnt_at seen stock root ≡ told_at seen stock root
learnt_is_told seen stock root told = first (looked_at seen root) told where
  second : (len : Option ℕ) → stored_len stock root ≡ len → is_some (long_of len) ≡ true → long_at stock root ≡ long_of len
  second None at e = absurd cc
  second (Some len) at e = third (nat_lt META_LIMIT len) refl e where
    third : (test : Bool) → nat_lt META_LIMIT len ≡ test → is_some (cond test (Some (Long len)) None) ≡ true → long_at stock root ≡ cond test (Some (Long len)) None
    third true long e = stored_long stock root len at long
    third false long e = absurd cc

  first : (seen : Option Meta) → is_some (first_known seen (long_of (stored_len stock root))) ≡ true → first_known seen (long_at stock root) ≡ first_known seen (long_of (stored_len stock root))
  first (Some meta) e = refl
  first None e = second (stored_len stock root) refl e

pub looked_books_at : (seen : List LookedAt) (s : State) (root : Root) → book_at (looked_books seen s) root ≡ first_known (book_at s.books root) (learnt_at seen s.stock root)
looked_books_at seen s root =
    with_long_at s.stock (with_looked s.books seen) root
    ∙ ap (λ (m : Option Meta). first_known m (long_at s.stock root)) (with_looked_at seen s.books root)
    ∙ first_thrice (book_at s.books root) (looked_at seen root) (long_at s.stock root)

-- ---- an event

-- The package is protected, and stored.
pub record IsThere (s : State) (root : Root) : Type 0 where
  pub among : has_root (protected_in s) root ≡ true
  pub stored : is_stored s.stock root ≡ true

-- From t, whose books know exactly what is protected and stored, an act leaves n. Of what was there, it leaves all
-- stored, and all protected but those that are gone; and of what is there now and wasn't known, it was learned what the
-- event tells.
pub record Turns (seen : List LookedAt) (learned : Root → Option Meta) (gone : List Root) (t n : State) : Type 0 where
  pub books : n.books ≡ t.books
  pub stays : (root : Root) → IsThere t root → is_stored n.stock root ≡ true
  pub goes : (root : Root) → IsThere t root → has_root (protected_in n) root ≡ false → has_root gone root ≡ true
  pub comes : (root : Root) → IsThere n root → is_some (book_at t.books root) ≡ false
      → (is_some (learned root) ≡ true) × (learned root ≡ told_at seen n.stock root)
  pub only : (root : Root) → (has_root (protected_in n) root && is_stored n.stock root) ≡ false → is_some (book_at t.books root) ≡ false
      → (has_root gone root && not (has_root (protected_in n) root)) ≡ false → learned root ≡ None

-- what the store's books then are at a root
abbrev pub left_at : (Root → Option Meta) → List Root → State → State → Root → Option Meta
left_at learned gone t n root =
    cond (has_root gone root && not (has_root (protected_in n) root)) None (first_known (book_at t.books root) (learned root))

there : (t : State) → KnowsExactly t.books (protected_in t) t.stock → (root : Root) → is_some (book_at t.books root) ≡ true → IsThere t root
there t k root known = record { among = k.among root known; stored = k.there root known }

none_either : (test : Bool) (m : Option Meta) → m ≡ None → cond test None m ≡ None
none_either true m e = refl
none_either false m e = e

left_so : (seen : List LookedAt) (learned : Root → Option Meta) (gone : List Root) (t n : State) → KnowsExactly t.books (protected_in t) t.stock → Turns seen learned gone t n → (root : Root) (test : Bool)
    → (has_root (protected_in n) root && is_stored n.stock root) ≡ test
    → cond test (first_known (book_at n.books root) (learnt_at seen n.stock root)) None ≡ left_at learned gone t n root
left_so seen learned gone t n k h root true e =
    let parts = and_parts (has_root (protected_in n) root) (is_stored n.stock root) e in
    let stays : (has_root gone root && not (has_root (protected_in n) root)) ≡ false =
    and_right (has_root gone root) (not (has_root (protected_in n) root)) (not_from_true (has_root (protected_in n) root) parts.0) in
    ap (λ (books : Books). first_known (book_at books root) (learnt_at seen n.stock root)) h.books
    ∙ elim (cases_Bool (is_some (book_at t.books root))) [
      | inl known ↦
          first_of_some (book_at t.books root) (learnt_at seen n.stock root) known
          ∙ sym (first_of_some (book_at t.books root) (learned root) known)
      | inr new ↦
          let came = h.comes root (record { among = parts.0; stored = parts.1 }) new in
          ap (first_known (book_at t.books root))
          (learnt_is_told seen n.stock root (ap (λ (m : Option Meta). is_some m) (sym came.1) ∙ came.0) ∙ sym came.1)
    ]
    ∙ sym (ap (λ (test : Bool). cond test None (first_known (book_at t.books root) (learned root))) stays)
left_so seen learned gone t n k h root false e =
    elim (cases_Bool (is_some (book_at t.books root))) [
      | inl known ↦
          let was = there t k root known in
          let stored = h.stays root was in
          let passed : has_root (protected_in n) root ≡ false =
          elim (cases_Bool (has_root (protected_in n) root)) [
            | inl among ↦ absurd (true≢false (sym (and_from (has_root (protected_in n) root) (is_stored n.stock root) among stored) ∙ e))
            | inr passed ↦ passed
          ] in
          let goes : (has_root gone root && not (has_root (protected_in n) root)) ≡ true =
          and_from (has_root gone root) (not (has_root (protected_in n) root)) (h.goes root was passed) (not_from_false (has_root (protected_in n) root) passed) in
          sym (ap (λ (test : Bool). cond test None (first_known (book_at t.books root) (learned root))) goes)
      | inr new ↦
          elim (cases_Bool (has_root gone root && not (has_root (protected_in n) root))) [
            | inl goes ↦ sym (ap (λ (test : Bool). cond test None (first_known (book_at t.books root) (learned root))) goes)
            | inr stays ↦
                sym (none_either (has_root gone root && not (has_root (protected_in n) root)) (first_known (book_at t.books root) (learned root))
                (ap₂ first_known (is_none (book_at t.books root) new) (h.only root e new stays)))
          ]
    ]

-- The store's books are those that the event leaves.
pub settles : (seen : List LookedAt) (learned : Root → Option Meta) (gone : List Root) (t n new : State)
    → KnowsExactly t.books (protected_in t) t.stock → Turns seen learned gone t n → new ≡ with_books n new.books
    → ((root : Root) → book_at new.books root ≡ left_at learned gone t n root) → IsSettled seen n new
settles seen learned gone t n new k h rest left = record {
  looked = λ root among stored.
      ap (λ (m : Option Meta). is_some m) (looked_books_at seen n root)
      ∙ ap (λ (books : Books). is_some (first_known (book_at books root) (learnt_at seen n.stock root))) h.books
      ∙ elim (cases_Bool (is_some (book_at t.books root))) [
        | inl known ↦ ap (λ (m : Option Meta). is_some m) (first_of_some (book_at t.books root) (learnt_at seen n.stock root) known) ∙ known
        | inr new ↦
            let came = h.comes root (record { among = among; stored = stored }) new in
            ap (λ (m : Option Meta). is_some (first_known m (learnt_at seen n.stock root))) (is_none (book_at t.books root) new)
            ∙ ap (λ (m : Option Meta). is_some m) (learnt_is_told seen n.stock root (ap (λ (m : Option Meta). is_some m) (sym came.1) ∙ came.0))
            ∙ ap (λ (m : Option Meta). is_some m) (sym came.1)
            ∙ came.0
      ];
  state = record {
    rest = rest;
    books = λ root.
        kept_at (looked_books seen n) (protected_in n) n.stock root
        ∙ ap (λ (m : Option Meta). cond (has_root (protected_in n) root && is_stored n.stock root) m None) (looked_books_at seen n root)
        ∙ left_so seen learned gone t n k h root (has_root (protected_in n) root && is_stored n.stock root) refl
        ∙ sym (left root);
  };
}

-- ---- events that look at nothing

abbrev pub nothing : Root → Option Meta
nothing root = None

-- What is there was there, and of what was there all is stored, and all protected but what is gone.
pub record IsQuiet (gone : List Root) (t n : State) : Type 0 where
  pub books : n.books ≡ t.books
  pub stays : (root : Root) → IsThere t root → is_stored n.stock root ≡ true
  pub goes : (root : Root) → IsThere t root → has_root (protected_in n) root ≡ false → has_root gone root ≡ true
  pub comes : (root : Root) → IsThere n root → IsThere t root

known_there : (t : State) → KnowsExactly t.books (protected_in t) t.stock → (root : Root) → IsThere t root → is_some (book_at t.books root) ≡ true
known_there t k root at = k.all root at.among at.stored

turns_quiet : (gone : List Root) (t n : State) → KnowsExactly t.books (protected_in t) t.stock → IsQuiet gone t n → Turns [] nothing gone t n
turns_quiet gone t n k h = record {
  books = h.books;
  stays = h.stays;
  goes = h.goes;
  comes = λ root at new. absurd (true≢false (sym (known_there t k root (h.comes root at)) ∙ new));
  only = λ root e new stays. refl;
}

-- After an act that is quiet, once the books have forgotten what is gone, they are settled.
pub settles_quietly : (gone : List Root) (t n new : State) → KnowsExactly t.books (protected_in t) t.stock → IsQuiet gone t n → new ≡ with_books n new.books
    → ((root : Root) → book_at new.books root ≡ cond (has_root gone root && not (has_root (protected_in n) root)) None (book_at t.books root)) → IsSettled [] n new
settles_quietly gone t n new k h rest left =
    settles [] nothing gone t n new k (turns_quiet gone t n k h) rest
    (λ root. left root ∙ ap (λ (m : Option Meta). cond (has_root gone root && not (has_root (protected_in n) root)) None m) (first_none (book_at t.books root)))

-- After an act that leaves the stock and the protected packages they are settled at once.
pub settles_still : (t n : State) → KnowsExactly t.books (protected_in t) t.stock → n.books ≡ t.books → n.stock ≡ t.stock
    → ((root : Root) → has_root (protected_in n) root ≡ has_root (protected_in t) root) → IsSettled [] n n
settles_still t n k books stock among =
    settles_quietly [] t n n k
    (record {
      books = books;
      stays = λ root at. ap (λ (s : List Stored). is_stored s root) stock ∙ at.stored;
      goes = λ root at passed. absurd (true≢false (sym (among root ∙ at.among) ∙ passed));
      comes = λ root at. record {
        among = sym (among root) ∙ at.among;
        stored = ap (λ (s : List Stored). is_stored s root) (sym stock) ∙ at.stored;
      };
    })
    refl (λ root. ap (λ (b : Books). book_at b root) books)
