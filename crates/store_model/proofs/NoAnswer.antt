-- A lane has no answer exactly where its ticket is quiet.
use Rattle.std.proofs.Common.{◌≡◌, ℕ, Bool, true, false, cond, ◌&&◌, ◌||◌, List, [], ◌∷◌, Option, Some, None, is_some, Result, Ok, Err, refl, inl, inr, arith}
use Rattle.std.specs.Prelude.{◌⊎◌, ◌↔◌, ◌==◌, ◌≢◌, Contains, find, not, option_and_then, IsSomeAnd}
use Rattle.std.specs.List.{list_all}
use Rattle.std.specs.List.{AllByRecursion as ByRecursion}
use Rattle.std.proofs.lemmas.Bool.{cases_Bool}
use Rattle.std.proofs.lemmas.Bool.Decides.{nat_tests}
use Rattle.std.proofs.lemmas.List.Elements.{All-from_recursion, All-contains, Contains-append_right}
use Rattle.pkg_names.specs.declared.root.Root.{Root}
use Rattle.pkg_names.specs.Root.{root_eq}
use Rattle.fetch_queue.specs.declared.FetchEnd.{FetchEnd}
use Rattle.fetch_queue.specs.declared.queue.ClaimEntry.{ClaimEntry}
use Rattle.fetch_queue.specs.Fetches.{is_claimed}
use Rattle.package_book.specs.declared.fault.PackageFault.{PackageFault}
use Rattle.package_book.specs.Books.{Meta, book_at}
use Rattle.package_book.specs.Book.{MetaAndFiles}
use Rattle.package_book.specs.Names.{names}
use Rattle.package_book.proofs.NameLaws.{has_itself}
use Rattle.store_model.specs.State.{State, Arrival, is_stored, claim_of, holds_claim}
use Rattle.store_model.specs.Packages.{book_of, the_book, the_fault, known_book, known_fault, is_complete}
use Rattle.store_model.specs.Acts.Want.{is_free, first_free, answer_for, want_answer}
use Rattle.store_model.specs.Quiet.{IsMissing, IsQuietFor}

-- ---- tests and lists

first_false : (a b : Bool) → (a || b) ≡ false → a ≡ false
first_false true b h = absurd cc
first_false false b h = refl

second_false : (a b : Bool) → (a || b) ≡ false → b ≡ false
second_false true b h = absurd cc
second_false false b h = h

one_false : (a b : Bool) → (a && b) ≡ false → (a ≡ false) ⊎ (b ≡ false)
one_false true b h = inr h
one_false false b h = inl refl

and_false : (a b : Bool) → b ≡ false → (a && b) ≡ false
and_false true b h = h
and_false false b h = refl

-- what isn't found passes nowhere
fail_by_recursion : {X : Type 0} (p : X → Bool) (xs : List X) → find p xs ≡ None → ByRecursion (λ x. p x ≡ false) xs
fail_by_recursion p [] h = tt
fail_by_recursion p (y ∷ ys) h = first (p y) refl h (fail_by_recursion p ys) where
  first : (test : Bool) → p y ≡ test → cond test (Some y) (find p ys) ≡ None → (find p ys ≡ None → ByRecursion (λ x. p x ≡ false) ys) → ByRecursion (λ x. p x ≡ false) (y ∷ ys)
  first true e none rest = absurd cc
  first false e none rest = (e, rest none)

none_passes : {X : Type 0} (p : X → Bool) (xs : List X) (x : X) → find p xs ≡ None → Contains xs x → p x ≡ false
none_passes p xs x none at =
    All-contains (λ y. p y ≡ false) xs x (All-from_recursion (λ y. p y ≡ false) xs (fail_by_recursion p xs none)) at

-- and what passes nowhere isn't found
not_found : {X : Type 0} (p : X → Bool) (xs : List X) → ((x : X) → Contains xs x → p x ≡ false) → find p xs ≡ None
not_found p [] h = refl
not_found p (y ∷ ys) h =
    rw (h y (0, omega arith, refl)) (not_found p ys (λ x c. h x (Contains-append_right (y ∷ []) ys x c)))

fails_somewhere : {X : Type 0} (p : X → Bool) (xs : List X) → list_all p xs ≡ false → (x : X) × Contains xs x × (p x ≡ false)
fails_somewhere p [] h = absurd cc
fails_somewhere p (y ∷ ys) h = elim (one_false (p y) (list_all p ys) h) [
  | inl here ↦ (y, (0, omega arith, refl), here)
  | inr later ↦ let rest = fails_somewhere p ys later in (rest.0, Contains-append_right (y ∷ []) ys rest.0 rest.1, rest.2)
]

pass_by_recursion : {X : Type 0} (p : X → Bool) (xs : List X) → list_all p xs ≡ true → ByRecursion (λ x. p x ≡ true) xs
pass_by_recursion p [] h = tt
pass_by_recursion p (y ∷ ys) h = first (p y) refl h (pass_by_recursion p ys) where
  first : (test : Bool) → p y ≡ test → (test && list_all p ys) ≡ true → (list_all p ys ≡ true → ByRecursion (λ x. p x ≡ true) ys) → ByRecursion (λ x. p x ≡ true) (y ∷ ys)
  first true e all rest = (e, rest all)
  first false e all rest = absurd cc

not_all : {X : Type 0} (p : X → Bool) (xs : List X) (x : X) → Contains xs x → p x ≡ false → list_all p xs ≡ false
not_all p xs x at fails = elim (cases_Bool (list_all p xs)) [
  | inl all ↦
      let passes : p x ≡ true = All-contains (λ y. p y ≡ true) xs x (All-from_recursion (λ y. p y ≡ true) xs (pass_by_recursion p xs all)) at in
      absurd cc
  | inr not ↦ not
]

-- ---- claims

has_claim : (claims : List ClaimEntry) (root : Root) (P : ClaimEntry → Type 0) → IsSomeAnd (claim_of claims root) P → is_claimed claims root ≡ true
has_claim [] root P h = absurd h
has_claim (c ∷ claims) root P h = first (root_eq c.root root) h (has_claim claims root P) where
  first : (test : Bool) → IsSomeAnd (cond test (Some c) (claim_of claims root)) P → (IsSomeAnd (claim_of claims root) P → is_claimed claims root ≡ true) → (test || is_claimed claims root) ≡ true
  first true h rest = refl
  first false h rest = rest h

-- who holds no claim doesn't hold this one
claimed_by_another : (claims : List ClaimEntry) (root : Root) (lane : ℕ) → holds_claim claims lane ≡ false
    → is_claimed claims root ≡ true → IsSomeAnd (claim_of claims root) (λ (claim : ClaimEntry). claim.lane ≢ lane)
claimed_by_another [] root lane free h = absurd cc
claimed_by_another (c ∷ claims) root lane free h =
    first (root_eq c.root root) (first_false (c.lane == lane) (holds_claim claims lane) free) h
    (claimed_by_another claims root lane (second_false (c.lane == lane) (holds_claim claims lane) free)) where
      first : (test : Bool) → (c.lane == lane) ≡ false → (test || is_claimed claims root) ≡ true
          → (is_claimed claims root ≡ true → IsSomeAnd (claim_of claims root) (λ (claim : ClaimEntry). claim.lane ≢ lane))
          → IsSomeAnd (cond test (Some c) (claim_of claims root)) (λ (claim : ClaimEntry). claim.lane ≢ lane)
      first true other h rest = λ same. absurd (grind (arith, nat_tests))
      first false other h rest = rest h

-- ---- what is known

no_entry : (meta : Option Meta) → option_and_then (λ m. the_fault (book_of m)) meta ≡ None → is_some (option_and_then (λ m. the_book (book_of m)) meta) ≡ false → meta ≡ None
no_entry None fault book = refl
no_entry (Some m) fault book = first (book_of m) fault book where
  first : (r : Result MetaAndFiles PackageFault) → the_fault r ≡ None → is_some (the_book r) ≡ false → Some m ≡ None
  first (Ok found) f b = absurd cc
  first (Err why) f b = absurd cc

-- ---- the two directions

record IsUnanswered (mark : Option FetchEnd) (fault : Option PackageFault) (complete : Bool) (free : Option Root) : Type 0 where
  unmarked : mark ≡ None
  no_fault : fault ≡ None
  incomplete : complete ≡ false
  nothing_free : free ≡ None

no_answer : (mark : Option FetchEnd) (fault : Option PackageFault) (complete : Bool) (free : Option Root) → answer_for mark fault complete free ≡ None → IsUnanswered mark fault complete free
no_answer (Some end) fault complete free h = absurd cc
no_answer None (Some why) complete free h = absurd cc
no_answer None None true free h = absurd cc
no_answer None None false (Some root) h = absurd cc
no_answer None None false None h = record { unmarked = refl; no_fault = refl; incomplete = refl; nothing_free = refl }

so_no_answer : (mark : Option FetchEnd) (fault : Option PackageFault) (complete : Bool) (free : Option Root) → IsUnanswered mark fault complete free → answer_for mark fault complete free ≡ None
so_no_answer mark fault complete free none = rw none.unmarked (rw none.no_fault (rw none.incomplete (rw none.nothing_free refl)))

-- a blob that isn't free and is missing is claimed
taken : (stored claimed : Bool) → not (stored || claimed) ≡ false → stored ≡ false → claimed ≡ true
taken true claimed h missing = absurd cc
taken false true h missing = refl
taken false false h missing = absurd cc

not_free : (stored claimed : Bool) → (stored ≡ false → claimed ≡ true) → not (stored || claimed) ≡ false
not_free true claimed h = refl
not_free false claimed h = rw (h refl) refl

-- the books know the package, if it is stored
abbrev pub IsKnown : State → Root → Type 0
IsKnown s root = is_stored s.stock root ≡ true → is_some (book_at s.books root) ≡ true

unstored : (stored : Bool) (meta : Option Meta) → (stored ≡ true → is_some meta ≡ true) → meta ≡ None → stored ≡ false
unstored true meta known none = let some = known refl in absurd cc
unstored false meta known none = refl

some_missing : (s : State) (top : Root) → IsKnown s top → known_fault s.books top ≡ None → is_complete s top ≡ false → (root : Root) × IsMissing s top root
some_missing s top known no_fault incomplete =
    elim (one_false (is_some (known_book s.books top)) (list_all (is_stored s.stock) (names top s.books)) incomplete) [
      | inl no_book ↦
          let own = has_itself top s.books in (
            top,
            record {
              named = own.named top own.level;
              missing = unstored (is_stored s.stock top) (book_at s.books top) known (no_entry (book_at s.books top) no_fault no_book);
            },
          )
      | inr some ↦
          let found = fails_somewhere (is_stored s.stock) (names top s.books) some in
          (found.0, record { named = found.1; missing = found.2 })
    ]

quiet_from : (s : State) (lane : ℕ) (arrival : Arrival) → holds_claim s.claims lane ≡ false → IsKnown s arrival.root
    → want_answer s arrival ≡ None → IsQuietFor s lane arrival
quiet_from s lane arrival free known none =
    let so = no_answer arrival.mark (known_fault s.books arrival.root) (is_complete s arrival.root) (first_free s arrival.root) none in
    record {
      some = some_missing s arrival.root known so.no_fault so.incomplete;
      each = λ root missing. claimed_by_another s.claims root lane free
          (taken (is_stored s.stock root) (is_claimed s.claims root)
          (none_passes (is_free s) (names arrival.root s.books) root so.nothing_free missing.named) missing.missing);
      unmarked = so.unmarked;
      no_fault = so.no_fault;
    }

from_quiet : (s : State) (lane : ℕ) (arrival : Arrival) → IsQuietFor s lane arrival → want_answer s arrival ≡ None
from_quiet s lane arrival quiet =
    so_no_answer arrival.mark (known_fault s.books arrival.root) (is_complete s arrival.root) (first_free s arrival.root)
    (record {
      unmarked = quiet.unmarked;
      no_fault = quiet.no_fault;
      incomplete = and_false (is_some (known_book s.books arrival.root)) (list_all (is_stored s.stock) (names arrival.root s.books))
          (not_all (is_stored s.stock) (names arrival.root s.books) quiet.some.0 quiet.some.1.named quiet.some.1.missing);
      nothing_free = not_found (is_free s) (names arrival.root s.books)
          (λ root named. not_free (is_stored s.stock root) (is_claimed s.claims root)
          (λ missing. has_claim s.claims root (λ (claim : ClaimEntry). claim.lane ≢ lane)
          (quiet.each root (record { named = named; missing = missing }))));
    })

pub waits : (s : State) (lane : ℕ) (arrival : Arrival) → holds_claim s.claims lane ≡ false → IsKnown s arrival.root
    → (IsQuietFor s lane arrival ↔ (want_answer s arrival ≡ None))
waits s lane arrival free known = (from_quiet s lane arrival, quiet_from s lane arrival free known)
