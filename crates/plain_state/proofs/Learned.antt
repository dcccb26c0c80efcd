-- What the books learn of packages that are retained, and that it is forgotten again where memory is wanting.
use Rattle.std.proofs.Common.{◌≡◌, ◌≤◌, ◌<◌, ◌+◌, inl, inr, ℕ, Bool, true, false, cond, ◌&&◌, ◌||◌, not, List, [], ◌∷◌, ◌++◌, length, get_or, take, Option, Some, None, is_some, refl, sym, ap, subst, ◌∙◌}
use Rattle.std.specs.Prelude.{nat_le}
use Rattle.std.specs.Option.{option_map}
use Rattle.std.proofs.lemmas.Bool.{cases_Bool, true≢false, and_parts, and_from, and_right, not_from_true, not_from_false, not-true, leb-true}
use Rattle.std.proofs.lemmas.List.{take_more}
use Rattle.std.proofs.lemmas.List.Folds.{list_any-append}
use Rattle.pkg_names.specs.declared.root.Root.{Root}
use Rattle.pkg_names.specs.Root.{root_eq}
use Rattle.pkg_names.proofs.Roots.{root_eq-true}
use Rattle.package_book.specs.declared.book.TheConstants.{META_LIMIT}
use Rattle.package_book.specs.Books.{Meta, book_at}
use Rattle.package_book.specs.Books.Meta.{Read}
use Rattle.store_model.specs.declared.events.LookedAt.{LookedAt}
use Rattle.store_model.specs.declared.ends.RetainEnd.TheVariants as retains
use Rattle.store_model.specs.Mirrors.{Mirrors}
use Rattle.store_model.specs.State.{State, stored_len, is_stored, has_root, protected_in}
use Rattle.store_model.specs.Systems.{seen_bytes}
use Rattle.store_model.specs.Settling.{IsSeen}
use Rattle.store_model.specs.Acts.Begin.{has_to_read}
use Rattle.store_model.specs.Acts.Retain.{next_retain}
use Rattle.store_model.proofs.SameBooks.{with_books}
use Rattle.plain_stock.specs.Contents.{AreBytesOf}
use Rattle.plain_state.specs.Learning.{first_known, looked_at, at_root, long_of, Learns, LearnsLengths, LearnsAmong, LearnsOf, Forgets, IsReady, IsSettled}
use Rattle.plain_state.specs.Looking.{Sees, LearnsAll, AreFrom, AreAmong, AreLearned, roots_seen}
use Rattle.plain_state.proofs.Settled.{first_of_some}
use Rattle.plain_state.proofs.Looking.{learns_none, seen_from, front_has}
use Rattle.plain_state.proofs.Seen.{seen_stored, seen_rooted}
use Rattle.plain_state.proofs.SettledLooks.{is_read_if, is_read_not, retains_these}

never : {P : Type 0} {b : Bool} → b ≡ true → b ≡ false → P
never holds lacks = absurd (true≢false (sym holds ∙ lacks))

first_none : (m : Option Meta) → m ≡ first_known m None
first_none None = refl
first_none (Some meta) = refl

thrice : (a b c : Option Meta) → first_known (first_known a b) c ≡ first_known a (first_known b c)
thrice None b c = refl
thrice (Some meta) b c = refl

none_so : (m : Option Meta) → is_some m ≡ false → m ≡ None
none_so None h = refl
none_so (Some meta) h = absurd cc

-- ---- lengths

cond_none : (test : Bool) → cond test (let none : Option Meta = None in none) None ≡ None
cond_none true = refl
cond_none false = refl

pub lengths_none : (t : State) → LearnsLengths [] t t
lengths_none t = record { rest = refl; books = λ other. first_none (book_at t.books other) }

-- one package more
length_at : (test here : Bool) (m own : Option Meta) → (here ≡ true → own ≡ m) → first_known (cond test m None) (cond here own None) ≡ cond (test || (here || false)) m None
length_at true true None own same = same refl
length_at true true (Some meta) own same = refl
length_at true false m own same = sym (first_none m)
length_at false true m own same = same refl
length_at false false m own same = refl

pub lengths_then : (roots : List Root) (root : Root) (t u v : State) → LearnsLengths roots t u → Learns root (long_of (stored_len u.stock root)) u v → LearnsLengths (roots ++ root ∷ []) t v
lengths_then roots root t u v before one = record {
  rest = one.rest ∙ ap (λ (w : State). with_books w v.books) before.rest;
  books = λ other.
      let len = stored_len t.stock in
      one.books other
      ∙ ap (λ (w : State). first_known (book_at u.books other) (at_root root (long_of (stored_len w.stock root)) other)) before.rest
      ∙ ap (λ (m : Option Meta). first_known m (at_root root (long_of (len root)) other)) (before.books other)
      ∙ thrice (book_at t.books other) (cond (has_root roots other) (long_of (len other)) None) (at_root root (long_of (len root)) other)
      ∙ ap (first_known (book_at t.books other))
      (length_at (has_root roots other) (root_eq root other) (long_of (len other)) (long_of (len root)) (λ same. ap (λ (r : Root). long_of (len r)) (root_eq-true root other same))
      ∙ ap (λ (test : Bool). cond test (long_of (len other)) None) (sym (list_any-append (λ (r : Root). root_eq r other) roots (root ∷ []))));
}

pub lengths_more : (roots : List Root) (i : ℕ) (d : Root) (t u v : State) → i < length roots → LearnsLengths (take i roots) t u → Learns (get_or roots i d) (long_of (stored_len u.stock (get_or roots i d))) u v
    → LearnsLengths (take (i + 1) roots) t v
lengths_more roots i d t u v within before one =
    subst (λ (rs : List Root). LearnsLengths rs t v) (sym (take_more roots i d within))
    (lengths_then (take i roots) (get_or roots i d) t u v before one)

-- ---- what was learned is among these

is_own : (m other : Option Meta) → is_some m ≡ false → is_some (first_known m other) ≡ true → is_some other ≡ true
is_own None other unknown known = known
is_own (Some meta) other unknown known = absurd cc

long_stored : (len : Option ℕ) (test : Bool) → is_some (cond test (long_of len) None) ≡ true → (test && is_some len) ≡ true
long_stored None true h = absurd cc
long_stored None false h = absurd cc
long_stored (Some len) true h = refl
long_stored (Some len) false h = absurd cc

pub among_lengths : (roots : List Root) (t u : State) → LearnsLengths roots t u → LearnsAmong roots t u
among_lengths roots t u learns = record {
  rest = learns.rest;
  known = λ other before. learns.books other ∙ first_of_some (book_at t.books other) (cond (has_root roots other) (long_of (stored_len t.stock other)) None) before;
  among = λ other unknown known.
      long_stored (stored_len t.stock other) (has_root roots other)
      (is_own (book_at t.books other) (cond (has_root roots other) (long_of (stored_len t.stock other)) None) unknown (sym (ap (λ (m : Option Meta). is_some m) (learns.books other)) ∙ known));
}

-- of a part of them
pub among_fewer : (roots : List Root) (i : ℕ) (t u : State) → LearnsAmong (take i roots) t u → LearnsAmong roots t u
among_fewer roots i t u learns = record {
  rest = learns.rest;
  known = learns.known;
  among = λ other unknown known.
      let both = and_parts (has_root (take i roots) other) (is_stored t.stock other) (learns.among other unknown known) in
      and_from (has_root roots other) (is_stored t.stock other) (front_has roots i other both.0) both.1;
}

pub among_next : (roots : List Root) (t u v : State) → LearnsAmong roots t u → LearnsAmong roots u v → LearnsAmong roots t v
among_next roots t u v one two = record {
  rest = two.rest ∙ ap (λ (w : State). with_books w v.books) one.rest;
  known = λ other before. two.known other (ap (λ (m : Option Meta). is_some m) (one.known other before) ∙ before) ∙ one.known other before;
  among = λ other unknown known.
      elim (cases_Bool (is_some (book_at u.books other))) [
        | inl then ↦ one.among other unknown then
        | inr not_then ↦ ap (λ (w : State). has_root roots other && is_stored w.stock other) (sym one.rest) ∙ two.among other not_then known
      ];
}

looked_some : (found : Option (List ℕ)) → is_some (option_map Read found) ≡ true → is_some found ≡ true
looked_some None h = absurd cc
looked_some (Some bytes) h = refl

pub learns_seen : (contents seen : List LookedAt) (t u : State) → Sees contents [] seen t u → LearnsAll seen t u
learns_seen contents seen t u sees = sees.learns t (learns_none t)

pub is_seen : (contents seen : List LookedAt) (t u : State) → AreBytesOf contents t.stock → Sees contents [] seen t u → IsSeen seen t.stock
is_seen contents seen t u all sees = seen_from contents seen t.stock all (sees.from tt)

-- what was learned was looked at
new_seen : (seen : List LookedAt) (t u : State) (other : Root) → LearnsAll seen t u → is_some (book_at t.books other) ≡ false → is_some (book_at u.books other) ≡ true → is_some (seen_bytes seen other) ≡ true
new_seen seen t u other learns unknown known =
    looked_some (seen_bytes seen other) (is_own (book_at t.books other) (looked_at seen other) unknown (sym (ap (λ (m : Option Meta). is_some m) (learns.books other)) ∙ known))

among_all : (seen : List LookedAt) (roots : List Root) (t u : State) → IsSeen seen t.stock → LearnsAll seen t u → ((root : Root) → is_some (seen_bytes seen root) ≡ true → has_root roots root ≡ true) → LearnsAmong roots t u
among_all seen roots t u all learns within = record {
  rest = learns.rest;
  known = λ other before. learns.books other ∙ first_of_some (book_at t.books other) (looked_at seen other) before;
  among = λ other unknown known.
      let found = new_seen seen t u other learns unknown known in
      and_from (has_root roots other) (is_stored t.stock other) (within other found) (seen_stored seen t.stock other all found);
}

or_none : (a : Bool) → (a || false) ≡ true → a ≡ true
or_none true h = refl
or_none false h = h

-- all that was seen is of these packages
from_these : (roots : List Root) (seen : List LookedAt) → AreAmong roots [] seen → (root : Root) → is_some (seen_bytes seen root) ≡ true → has_root roots root ≡ true
from_these roots seen among root found = or_none (has_root roots root) (among root found)

pub among_sees : (contents seen : List LookedAt) (roots : List Root) (t u : State) → AreBytesOf contents t.stock → Sees contents [] seen t u → AreAmong roots [] seen → LearnsAmong roots t u
among_sees contents seen roots t u all sees among =
    among_all seen roots t u (is_seen contents seen t u all sees) (learns_seen contents seen t u sees) (from_these roots seen among)

-- ---- all of it

-- a package that has to be read isn't known, and has its bytes in the contents
pub record IsToRead (contents : List LookedAt) (t : State) (root : Root) : Type 0 where
  pub bytes : List ℕ
  pub at : seen_bytes contents root ≡ Some bytes
  pub short : length bytes ≤ META_LIMIT
  pub unknown : is_some (book_at t.books root) ≡ false

pub to_read : (contents : List LookedAt) (t : State) (root : Root) → AreBytesOf contents t.stock → has_to_read t root ≡ true → IsToRead contents t root
to_read contents t root all read = first (seen_bytes contents root) refl where
  first : (found : Option (List ℕ)) → seen_bytes contents root ≡ found → IsToRead contents t root
  first None e = never read (is_read_not t root (sym (all.lengths root) ∙ ap (option_map length) e))
  first (Some bytes) e =
      let parts = and_parts (nat_le (length bytes) META_LIMIT) (not (is_some (book_at t.books root))) (sym (is_read_if t root (length bytes) (sym (all.lengths root) ∙ ap (option_map length) e)) ∙ read) in
      record { bytes = bytes; at = e; short = leb-true (length bytes) META_LIMIT parts.0; unknown = not-true (is_some (book_at t.books root)) parts.1 }

pub learns_of : (contents seen : List LookedAt) (roots : List Root) (t u v : State) → AreBytesOf contents t.stock → Sees contents [] seen t u → AreAmong roots [] seen → AreLearned contents roots u → LearnsLengths roots u v
    → LearnsOf roots seen t v
learns_of contents seen roots t u v all sees among learned lengths =
    let learns = learns_seen contents seen t u sees in
    record {
      rest = lengths.rest ∙ ap (λ (w : State). with_books w v.books) learns.rest;
      books = λ other.
          lengths.books other
          ∙ ap (λ (w : State). first_known (book_at u.books other) (cond (has_root roots other) (long_of (stored_len w.stock other)) None)) learns.rest
          ∙ ap (λ (m : Option Meta). first_known m (cond (has_root roots other) (long_of (stored_len t.stock other)) None)) (learns.books other)
          ∙ thrice (book_at t.books other) (looked_at seen other) (cond (has_root roots other) (long_of (stored_len t.stock other)) None)
          ∙ ap (first_known (book_at t.books other)) (told (has_root roots other) (seen_bytes seen other) (long_of (stored_len t.stock other)) (from_these roots seen among other));
      read = λ root given read.
          let it = to_read contents t root all read in
          new_seen seen t u root learns it.unknown (learned root given it.bytes it.at it.short);
    } where
      told : (given : Bool) (found : Option (List ℕ)) (long : Option Meta) → (is_some found ≡ true → given ≡ true) → first_known (option_map Read found) (cond given long None) ≡ cond given (first_known (option_map Read found) long) None
      told true found long h = refl
      told false None long h = refl
      told false (Some bytes) long h = absurd (true≢false (sym (h refl)))

-- ---- what is forgotten again

pub restored_among : (roots : List Root) (t u v : State) → IsReady t → LearnsAmong roots t u → Forgets roots u v → Mirrors t v
restored_among roots t u v ready learns forgets = record {
  rest = forgets.rest ∙ ap (λ (w : State). with_books w v.books) learns.rest;
  books = λ other.
      sym (forgets.books other
      ∙ ap (λ (w : State). cond (has_root roots other && not (has_root (protected_in w) other)) None (book_at u.books other)) learns.rest
      ∙ first other (is_some (book_at t.books other)) refl (is_some (book_at u.books other)) refl);
} where
  first : (other : Root) (known : Bool) → is_some (book_at t.books other) ≡ known → (now : Bool) → is_some (book_at u.books other) ≡ now
      → cond (has_root roots other && not (has_root (protected_in t) other)) None (book_at u.books other) ≡ book_at t.books other
  first other true before now then =
      let stays : (has_root roots other && not (has_root (protected_in t) other)) ≡ false =
      and_right (has_root roots other) (not (has_root (protected_in t) other)) (not_from_true (has_root (protected_in t) other) (ready.books.among other before)) in
      rw stays (learns.known other before)
  first other false before false then =
      ap (cond (has_root roots other && not (has_root (protected_in t) other)) None) (none_so (book_at u.books other) then)
      ∙ cond_none (has_root roots other && not (has_root (protected_in t) other))
      ∙ sym (none_so (book_at t.books other) before)
  first other false before true then =
      let both = and_parts (has_root roots other) (is_stored t.stock other) (learns.among other before then) in
      let passed : has_root (protected_in t) other ≡ false =
      elim (cases_Bool (has_root (protected_in t) other)) [
        | inl among ↦ never (ready.books.all other among both.1) before
        | inr passed ↦ passed
      ] in
      let goes : (has_root roots other && not (has_root (protected_in t) other)) ≡ true =
      and_from (has_root roots other) (not (has_root (protected_in t) other)) both.0 (not_from_false (has_root (protected_in t) other) passed) in
      rw goes (sym (none_so (book_at t.books other) before))

-- the blobs that were looked at
pub restored : (t u v : State) (seen : List LookedAt) → IsReady t → IsSeen seen t.stock → LearnsAll seen t u → Forgets (roots_seen seen) u v → Mirrors t v
restored t u v seen ready all learns forgets =
    restored_among (roots_seen seen) t u v ready (among_all seen (roots_seen seen) t u all learns (seen_rooted seen)) forgets

-- ---- packages are retained

pub kept_only : (contents seen : List LookedAt) (roots : List Root) (t u v w : State) → IsReady t → AreBytesOf contents t.stock → AreFrom contents seen → LearnsOf roots seen t u
    → v ≡ next_retain u roots retains.Done → Forgets t.retained v w → IsSettled seen (next_retain t roots retains.Done) w
kept_only contents seen roots t u v w ready all from learns is forgets =
    let v_is : v ≡ with_books (next_retain t roots retains.Done) u.books = is ∙ ap (λ (s : State). next_retain s roots retains.Done) learns.rest in
    retains_these t roots seen w ready
    (record {
      all = learns.read;
      there = λ root found. seen_stored seen t.stock root (seen_from contents seen t.stock all from) found;
    })
    (forgets.rest ∙ ap (λ (s : State). with_books s w.books) v_is)
    (λ other.
    forgets.books other
    ∙ ap (λ (s : State). cond (has_root t.retained other && not (has_root (protected_in s) other)) None (book_at s.books other)) v_is
    ∙ ap (cond (has_root t.retained other && not (has_root (protected_in (next_retain t roots retains.Done)) other)) None) (learns.books other))
