-- What was looked at says of a package what all that is stored says of it.
use Rattle.std.proofs.Common.{◌≡◌, ◌≤◌, inl, inr, ℕ, Bool, true, false, cond, List, [], ◌∷◌, length, Option, Some, None, is_some, refl, sym, ap, subst, ◌∙◌}
use Rattle.std.specs.Prelude.{nat_le, nat_lt, option_and_then}
use Rattle.std.specs.Option.{option_map}
use Rattle.std.proofs.lemmas.Bool.{cases_Bool, true≢false, leb-true, le-leb, ltb-false}
use Rattle.pkg_names.specs.declared.root.Root.{Root}
use Rattle.pkg_names.specs.Root.{root_eq}
use Rattle.pkg_names.proofs.Roots.{root_eq-true}
use Rattle.package_book.specs.declared.book.TheConstants.{META_LIMIT}
use Rattle.package_book.specs.Books.{Meta, Books, book_at}
use Rattle.package_book.specs.Books.Meta.{Read, Long}
use Rattle.package_book.specs.Names.{listed_roots, roots_known}
use Rattle.system_lists.specs.declared.list.TheConstants.{LIST_LIMIT}
use Rattle.system_lists.specs.Judging.{long_len}
use Rattle.store_model.specs.declared.events.LookedAt.{LookedAt}
use Rattle.store_model.specs.State.{State, Stored, stored_len}
use Rattle.store_model.specs.Packages.{book_of, the_book}
use Rattle.store_model.specs.Systems.{seen_bytes}
use Rattle.plain_stock.specs.Contents.{AreBytesOf}
use Rattle.plain_state.specs.Learning.{first_known, looked_at}
use Rattle.plain_state.specs.Looking.{LearnsAll, AreFrom, IsLookedAt, IsLearned}
use Rattle.plain_boot.specs.AllBooks.{meta_of, all_books}

never : {P : Type 0} {b : Bool} → b ≡ true → b ≡ false → P
never holds lacks = absurd (true≢false (sym holds ∙ lacks))

-- ---- what was looked at is in the contents

pub record IsFrom (contents : List LookedAt) (root : Root) (bytes : List ℕ) : Type 0 where
  pub at : seen_bytes contents root ≡ Some bytes
  pub short : length bytes ≤ META_LIMIT

some_at : (a b : List ℕ) → ◌≡◌ {A = Option (List ℕ)} (Some a) (Some b) → a ≡ b
some_at a b e = cc

pub from_at : (contents seen : List LookedAt) (root : Root) (bytes : List ℕ) → AreFrom contents seen → seen_bytes seen root ≡ Some bytes → IsFrom contents root bytes
from_at contents [] root bytes from at = absurd cc
from_at contents (pair ∷ seen) root bytes from at =
    elim (cases_Bool (root_eq pair.root root)) [
      | inr differs ↦ from_at contents seen root bytes from.2 (rw differs at at)
      | inl same ↦
          let is_root : pair.root ≡ root = root_eq-true pair.root root same in
          let is_bytes : pair.bytes ≡ bytes = some_at pair.bytes bytes (rw same at at) in
          record {
            at = ap (seen_bytes contents) (sym is_root) ∙ from.0 ∙ ap (λ (b : List ℕ). Some b) is_bytes;
            short = subst (λ (b : List ℕ). length b ≤ META_LIMIT) is_bytes from.1;
          }
    ]

-- ---- the books of all that is stored

books_at : (contents : List LookedAt) (root : Root) → book_at (all_books contents) root ≡ option_map meta_of (seen_bytes contents root)
books_at [] root = refl
books_at (pair ∷ contents) root = first (root_eq pair.root root) (books_at contents root) where
  first : (test : Bool) → book_at (all_books contents) root ≡ option_map meta_of (seen_bytes contents root)
      → cond test (Some (meta_of pair.bytes)) (book_at (all_books contents) root) ≡ option_map meta_of (cond test (Some pair.bytes) (seen_bytes contents root))
  first true rest = refl
  first false rest = rest

-- what is known of a package says the same of its book and of the blobs that it names
pub record SameBook (known other : Option Meta) : Type 0 where
  pub book : option_and_then (λ meta. the_book (book_of meta)) known ≡ option_and_then (λ meta. the_book (book_of meta)) other
  pub roots : roots_known known ≡ roots_known other

same_book : (known other : Option Meta) → known ≡ other → SameBook known other
same_book known other e = record { book = ap (option_and_then (λ meta. the_book (book_of meta))) e; roots = ap roots_known e }

long_book : (known : Option Meta) (len : ℕ) → known ≡ None → SameBook known (Some (Long len))
unfolding listed_roots
long_book known len e = record { book = ap (option_and_then (λ meta. the_book (book_of meta))) e; roots = ap roots_known e }

pub learned_at : (seen : List LookedAt) (t u : State) (root : Root) → t.books ≡ [] → LearnsAll seen t u → book_at u.books root ≡ looked_at seen root
learned_at seen t u root none learns = learns.books root ∙ ap (λ (books : Books). first_known (book_at books root) (looked_at seen root)) none

-- a package that was looked at where that could be
pub same_at : (contents seen : List LookedAt) (t u : State) (root : Root) → t.books ≡ [] → LearnsAll seen t u → AreFrom contents seen → IsLearned contents u root → SameBook (book_at u.books root) (book_at (all_books contents) root)
same_at contents seen t u root none learns from learned =
    subst (λ (m : Option Meta). SameBook (book_at u.books root) m) (sym (books_at contents root)) (first (seen_bytes contents root) refl (seen_bytes seen root) refl) where
      now : book_at u.books root ≡ looked_at seen root
      now = learned_at seen t u root none learns

      second : (bytes : List ℕ) (found : Option (List ℕ)) (short : Bool) → nat_le (length bytes) META_LIMIT ≡ short → seen_bytes contents root ≡ Some bytes → seen_bytes seen root ≡ found
          → SameBook (book_at u.books root) (Some (cond short (Read bytes) (Long (length bytes))))
      second bytes None true e at unseen = never (learned bytes at (leb-true (length bytes) META_LIMIT e)) (ap (λ (m : Option Meta). is_some m) (now ∙ ap (option_map Read) unseen))
      second bytes (Some other) true e at is =
          let same : other ≡ bytes = some_at other bytes (sym (from_at contents seen root other from is).at ∙ at) in
          same_book (book_at u.books root) (Some (Read bytes)) (now ∙ ap (option_map Read) is ∙ ap (λ (b : List ℕ). Some (Read b)) same)
      second bytes None false e at unseen = long_book (book_at u.books root) (length bytes) (now ∙ ap (option_map Read) unseen)
      second bytes (Some other) false e at is =
          let it = from_at contents seen root other from is in
          let same : other ≡ bytes = some_at other bytes (sym it.at ∙ at) in
          never (le-leb (length bytes) META_LIMIT (subst (λ (b : List ℕ). length b ≤ META_LIMIT) same it.short)) e

      first : (all : Option (List ℕ)) → seen_bytes contents root ≡ all → (found : Option (List ℕ)) → seen_bytes seen root ≡ found → SameBook (book_at u.books root) (option_map meta_of all)
      first None at None is = same_book (book_at u.books root) None (now ∙ ap (option_map Read) is)
      first None at (Some bytes) is = absurd (cc (sym (from_at contents seen root bytes from is).at ∙ at))
      first (Some bytes) at found is = second bytes found (nat_le (length bytes) META_LIMIT) refl at is

-- ---- a list

-- a list that isn't too long has the same bytes
pub same_bytes : (contents seen : List LookedAt) (stock : List Stored) (root : Root) → AreBytesOf contents stock → AreFrom contents seen → IsLookedAt contents seen root → long_len (stored_len stock root) ≡ None → seen_bytes seen root ≡ seen_bytes contents root
same_bytes contents seen stock root all from looked short = first (seen_bytes contents root) refl (seen_bytes seen root) refl where
  is_short : (len : ℕ) → long_len (Some len) ≡ None → len ≤ LIST_LIMIT
  is_short len e = second (nat_lt LIST_LIMIT len) refl e where
    second : (long : Bool) → nat_lt LIST_LIMIT len ≡ long → cond long (Some len) None ≡ None → len ≤ LIST_LIMIT
    second true is h = absurd cc
    second false is h = ltb-false LIST_LIMIT len is

  first : (whole : Option (List ℕ)) → seen_bytes contents root ≡ whole → (found : Option (List ℕ)) → seen_bytes seen root ≡ found → found ≡ whole
  first None at None is = refl
  first None at (Some bytes) is = absurd (cc (sym (from_at contents seen root bytes from is).at ∙ at))
  first (Some bytes) at (Some other) is = sym (from_at contents seen root other from is).at ∙ at
  first (Some bytes) at None is =
      let len : long_len (Some (length bytes)) ≡ None = ap long_len (sym (ap (option_map length) at) ∙ all.lengths root) ∙ short in
      never (looked bytes at (is_short (length bytes) len)) (ap (λ (o : Option (List ℕ)). is_some o) is)
