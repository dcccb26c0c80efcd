-- One look after another, and what is forgotten again.
use Rattle.std.proofs.Common.{◌≡◌, ◌≤◌, ◌<◌, ◌+◌, ◌⊎◌, inl, inr, ℕ, Bool, true, false, cond, ◌&&◌, ◌||◌, not, List, [], ◌∷◌, ◌++◌, length, get_or, take, drop, Option, Some, None, is_some, refl, sym, ap, subst, ◌∙◌}
use Rattle.std.specs.Prelude.{Result, Ok, Err, OnOk, OnErr}
use Rattle.std.specs.Option.{option_map}
use Rattle.std.proofs.lemmas.Bool.{or_cases, or_left, or_right}
use Rattle.std.proofs.lemmas.List.{take_more, take-append-drop, map-append}
use Rattle.std.proofs.lemmas.List.Folds.{list_any-append}
use Rattle.pkg_names.specs.declared.root.Root.{Root}
use Rattle.pkg_names.specs.Root.{root_eq}
use Rattle.pkg_names.proofs.Roots.{root_eq-true, root_eq-refl}
use Rattle.package_book.specs.declared.book.TheConstants.{META_LIMIT}
use Rattle.package_book.specs.Books.{Meta, book_at}
use Rattle.package_book.specs.Books.Meta.{Read}
use Rattle.store_model.specs.declared.events.LookedAt.{LookedAt}
use Rattle.store_model.specs.State.{State, Stored, has_root, protected_in}
use Rattle.store_model.specs.Systems.{seen_bytes}
use Rattle.store_model.specs.Settling.{IsSeen}
use Rattle.store_model.proofs.SameBooks.{with_books}
use Rattle.plain_stock.specs.Contents.{AreBytesOf}
use Rattle.plain_state.specs.Learning.{first_known, looked_at, at_root, Learns, Forgets}
use Rattle.plain_state.specs.Looking.{LearnsAll, AreFrom, roots_seen, Sees, AreAmong, IsLearned, AreLearned}
use Rattle.plain_state.proofs.Protected.{either_has, left_has}
use Rattle.plain_state.proofs.Settled.{first_of_some}

-- what is looked at last counts where nothing was before
abbrev pub first_bytes : Option (List ℕ) → Option (List ℕ) → Option (List ℕ)
first_bytes (Some bytes) other = Some bytes
first_bytes None other = other

pub seen_last : (seen : List LookedAt) (pair : LookedAt) (root : Root) → seen_bytes (seen ++ pair ∷ []) root ≡ first_bytes (seen_bytes seen root) (cond (root_eq pair.root root) (Some pair.bytes) None)
seen_last [] pair root = refl
seen_last (other ∷ seen) pair root = first (root_eq other.root root) (seen_last seen pair root) where
  first : (test : Bool) → seen_bytes (seen ++ pair ∷ []) root ≡ first_bytes (seen_bytes seen root) (cond (root_eq pair.root root) (Some pair.bytes) None)
      → cond test (Some other.bytes) (seen_bytes (seen ++ pair ∷ []) root) ≡ first_bytes (cond test (Some other.bytes) (seen_bytes seen root)) (cond (root_eq pair.root root) (Some pair.bytes) None)
  first true rest = refl
  first false rest = rest

looked_last : (seen : List LookedAt) (pair : LookedAt) (root : Root) → looked_at (seen ++ pair ∷ []) root ≡ first_known (looked_at seen root) (at_root pair.root (Some (Read pair.bytes)) root)
looked_last seen pair root = ap (option_map Read) (seen_last seen pair root) ∙ first (seen_bytes seen root) (root_eq pair.root root) where
  first : (found : Option (List ℕ)) (test : Bool) → option_map Read (first_bytes found (cond test (Some pair.bytes) None)) ≡ first_known (option_map Read found) (cond test (Some (Read pair.bytes)) None)
  first (Some bytes) test = refl
  first None true = refl
  first None false = refl

thrice : (a b c : Option Meta) → first_known (first_known a b) c ≡ first_known a (first_known b c)
thrice None b c = refl
thrice (Some meta) b c = refl

pub learns_one_more : (seen : List LookedAt) (root : Root) (bytes : List ℕ) (t u v : State) → LearnsAll seen t u → Learns root (Some (Read bytes)) u v → LearnsAll (seen ++ record { root = root; bytes = bytes } ∷ []) t v
learns_one_more seen root bytes t u v before one = record {
  rest = one.rest ∙ ap (λ (w : State). with_books w v.books) before.rest;
  books = λ other.
      one.books other
      ∙ ap (λ (m : Option Meta). first_known m (at_root root (Some (Read bytes)) other)) (before.books other)
      ∙ thrice (book_at t.books other) (looked_at seen other) (at_root root (Some (Read bytes)) other)
      ∙ ap (first_known (book_at t.books other)) (sym (looked_last seen (record { root = root; bytes = bytes }) other));
}

first_none : (m : Option Meta) → m ≡ first_known m None
first_none None = refl
first_none (Some meta) = refl

pub learns_none : (t : State) → LearnsAll [] t t
learns_none t = record { rest = refl; books = λ other. first_none (book_at t.books other) }

pub from_one_more : (contents seen : List LookedAt) (root : Root) (bytes : List ℕ) → AreFrom contents seen → seen_bytes contents root ≡ Some bytes → length bytes ≤ META_LIMIT → AreFrom contents (seen ++ record { root = root; bytes = bytes } ∷ [])
from_one_more contents [] root bytes from at short = (at, short, tt)
from_one_more contents (pair ∷ seen) root bytes from at short = (from.0, from.1, from_one_more contents seen root bytes from.2 at short)

-- what was looked at is there
pub seen_from : (contents seen : List LookedAt) (stock : List Stored) → AreBytesOf contents stock → AreFrom contents seen → IsSeen seen stock
seen_from contents [] stock all from = tt
seen_from contents (pair ∷ seen) stock all from =
    (all.roots pair.root pair.bytes from.0, sym (all.lengths pair.root) ∙ ap (option_map length) from.0, from.1, seen_from contents seen stock all from.2)

-- what follows from each of the two ends of a call follows
pub by_end : {V E : Type 0} (r : Result V E) (P A B C D : Type 0) → OnOk r A → OnOk r B → OnErr r C → OnErr r D → (A → B → P) → (C → D → P) → P
by_end (Ok v) P A B C D a b c d f g = f a b
by_end (Err e) P A B C D a b c d f g = g c d

-- what follows from an end of a call holds at that end
pub on_ok : {V E : Type 0} (r : Result V E) (P Q : Type 0) → OnOk r P → (P → Q) → OnOk r Q
on_ok (Ok v) P Q a f = f a
on_ok (Err e) P Q a f = a

pub on_err : {V E : Type 0} (r : Result V E) (P Q : Type 0) → OnErr r P → (P → Q) → OnErr r Q
on_err (Ok v) P Q a f = a
on_err (Err e) P Q a f = f a

pub at_err : {V E : Type 0} (r : Result V E) (P : Type 0) → P → OnErr r P
at_err (Ok v) P p = tt
at_err (Err e) P p = p

-- ---- what was seen grows

pub sees_none : (contents seen : List LookedAt) (t : State) → Sees contents seen seen t t
sees_none contents seen t = record {
  learns = λ s before. before;
  from = λ before. before;
  stays = λ root before. before;
  known = λ root before. refl;
}

pub sees_then : (contents seen more last : List LookedAt) (t u v : State) → Sees contents seen more t u → Sees contents more last u v → Sees contents seen last t v
sees_then contents seen more last t u v one two = record {
  learns = λ s before. two.learns s (one.learns s before);
  from = λ before. two.from (one.from before);
  stays = λ root before. two.stays root (one.stays root before);
  known = λ root before. two.known root (ap (λ (m : Option Meta). is_some m) (one.known root before) ∙ before) ∙ one.known root before;
}

first_stays : (found other : Option (List ℕ)) → is_some found ≡ true → is_some (first_bytes found other) ≡ true
first_stays None other h = absurd cc
first_stays (Some bytes) other h = refl

-- a blob was looked at
pub sees_one : (contents seen : List LookedAt) (root : Root) (bytes : List ℕ) (t u : State) → seen_bytes contents root ≡ Some bytes → length bytes ≤ META_LIMIT → Learns root (Some (Read bytes)) t u
    → Sees contents seen (seen ++ record { root = root; bytes = bytes } ∷ []) t u
sees_one contents seen root bytes t u at short learns = record {
  learns = λ s before. learns_one_more seen root bytes s t u before learns;
  from = λ before. from_one_more contents seen root bytes before at short;
  stays = λ other before.
      ap (λ (found : Option (List ℕ)). is_some found) (seen_last seen (record { root = root; bytes = bytes }) other)
      ∙ first_stays (seen_bytes seen other) (cond (root_eq root other) (Some bytes) None) before;
  known = λ other before. learns.books other ∙ first_of_some (book_at t.books other) (at_root root (Some (Read bytes)) other) before;
}

own_bytes : (found : Option (List ℕ)) (bytes : List ℕ) → is_some (first_bytes found (Some bytes)) ≡ true
own_bytes None bytes = refl
own_bytes (Some other) bytes = refl

pub seen_own : (seen : List LookedAt) (root : Root) (bytes : List ℕ) → is_some (seen_bytes (seen ++ record { root = root; bytes = bytes } ∷ []) root) ≡ true
seen_own seen root bytes =
    ap (λ (found : Option (List ℕ)). is_some found) (seen_last seen (record { root = root; bytes = bytes }) root)
    ∙ ap (λ (test : Bool). is_some (first_bytes (seen_bytes seen root) (cond test (Some bytes) None))) (root_eq-refl root)
    ∙ own_bytes (seen_bytes seen root) bytes

own_meta : (known : Option Meta) (meta : Meta) → is_some (first_known known (Some meta)) ≡ true
own_meta None meta = refl
own_meta (Some other) meta = refl

pub known_own : (root : Root) (meta : Meta) (t u : State) → Learns root (Some meta) t u → is_some (book_at u.books root) ≡ true
known_own root meta t u learns =
    ap (λ (m : Option Meta). is_some m) (learns.books root)
    ∙ ap (λ (test : Bool). is_some (first_known (book_at t.books root) (cond test (Some meta) None))) (root_eq-refl root)
    ∙ own_meta (book_at t.books root) meta

pub among_none : (roots : List Root) (seen : List LookedAt) → AreAmong roots seen seen
among_none roots seen root before = or_right (has_root roots root) (is_some (seen_bytes seen root)) before

pub among_one : (seen : List LookedAt) (root : Root) (bytes : List ℕ) → AreAmong (root ∷ []) seen (seen ++ record { root = root; bytes = bytes } ∷ [])
among_one seen root bytes other found =
    first (seen_bytes seen other) (root_eq root other)
    (sym (ap (λ (o : Option (List ℕ)). is_some o) (seen_last seen (record { root = root; bytes = bytes }) other)) ∙ found) where
      first : (before : Option (List ℕ)) (test : Bool) → is_some (first_bytes before (cond test (Some bytes) None)) ≡ true → ((test || false) || is_some before) ≡ true
      first before true h = refl
      first (Some bytes) false h = refl
      first None false h = absurd cc

pub among_then : (roots others : List Root) (seen more last : List LookedAt) → AreAmong roots seen more → AreAmong others more last → AreAmong (roots ++ others) seen last
among_then roots others seen more last one two root found =
    ap (λ (test : Bool). test || is_some (seen_bytes seen root)) (list_any-append (λ (r : Root). root_eq r root) roots others)
    ∙ first (has_root roots root) (has_root others root) (is_some (seen_bytes seen root))
    (elim (or_cases (has_root others root) (is_some (seen_bytes more root)) (two root found)) [
      | inl among ↦ inl among
      | inr before ↦ inr (one root before)
    ])
  where
    first : (a b c : Bool) → (b ≡ true) ⊎ ((a || c) ≡ true) → ((a || b) || c) ≡ true
    first true b c h = refl
    first false true c h = refl
    first false false c (inl h) = absurd cc
    first false false c (inr h) = h

pub learned_then : (contents seen more : List LookedAt) (roots : List Root) (root : Root) (t u : State) → AreLearned contents roots t → Sees contents seen more t u → IsLearned contents u root → AreLearned contents (roots ++ root ∷ []) u
learned_then contents seen more roots root t u before sees last other among =
    elim (either_has roots (root ∷ []) other among) [
      | inl one ↦ λ bytes at short.
          let known = before other one bytes at short in
          ap (λ (m : Option Meta). is_some m) (sees.known other known) ∙ known
      | inr two ↦ subst (IsLearned contents u) (root_eq-true root other (or_first (root_eq root other) two)) last
    ]
  where
    or_first : (test : Bool) → (test || false) ≡ true → test ≡ true
    or_first true h = refl
    or_first false h = h

-- ---- the same, of a list as far as a loop has come

pub among_more : (roots : List Root) (i : ℕ) (d : Root) (seen more last : List LookedAt) → i < length roots → AreAmong (take i roots) seen more → AreAmong (get_or roots i d ∷ []) more last → AreAmong (take (i + 1) roots) seen last
among_more roots i d seen more last within one two =
    subst (λ (rs : List Root). AreAmong rs seen last) (sym (take_more roots i d within))
    (among_then (take i roots) (get_or roots i d ∷ []) seen more last one two)

pub learned_more : (contents seen more : List LookedAt) (roots : List Root) (i : ℕ) (d : Root) (t u : State) → i < length roots → AreLearned contents (take i roots) t → Sees contents seen more t u → IsLearned contents u (get_or roots i d)
    → AreLearned contents (take (i + 1) roots) u
learned_more contents seen more roots i d t u within one sees two =
    subst (λ (rs : List Root). AreLearned contents rs u) (sym (take_more roots i d within))
    (learned_then contents seen more (take i roots) (get_or roots i d) t u one sees two)

pub front_has : (roots : List Root) (i : ℕ) (root : Root) → has_root (take i roots) root ≡ true → has_root roots root ≡ true
front_has roots i root among = ap (λ (rs : List Root). has_root rs root) (sym (take-append-drop i roots)) ∙ left_has (take i roots) (drop i roots) root among

pub among_front : (roots : List Root) (i : ℕ) (seen more : List LookedAt) → AreAmong (take i roots) seen more → AreAmong roots seen more
among_front roots i seen more one root found =
    elim (or_cases (has_root (take i roots) root) (is_some (seen_bytes seen root)) (one root found)) [
      | inl among ↦ or_left (has_root roots root) (is_some (seen_bytes seen root)) (front_has roots i root among)
      | inr before ↦ or_right (has_root roots root) (is_some (seen_bytes seen root)) before
    ]

-- ---- forgetting one after another

forgets_at : (p q among : Bool) (m : Option Meta) → cond (q && not among) None (cond (p && not among) None m) ≡ cond ((p || q) && not among) None m
forgets_at true true true m = refl
forgets_at true true false m = refl
forgets_at true false true m = refl
forgets_at true false false m = refl
forgets_at false true true m = refl
forgets_at false true false m = refl
forgets_at false false true m = refl
forgets_at false false false m = refl

pub forgets_one_more : (roots : List Root) (root : Root) (t u v : State) → Forgets roots t u → Forgets (root ∷ []) u v → Forgets (roots ++ root ∷ []) t v
forgets_one_more roots root t u v before one = record {
  rest = one.rest ∙ ap (λ (w : State). with_books w v.books) before.rest;
  books = λ other.
      let among : has_root (protected_in u) other ≡ has_root (protected_in t) other = ap (λ (w : State). has_root (protected_in w) other) before.rest in
      one.books other
      ∙ ap (λ (test : Bool). cond (has_root (root ∷ []) other && not test) None (book_at u.books other)) among
      ∙ ap (λ (m : Option Meta). cond (has_root (root ∷ []) other && not (has_root (protected_in t) other)) None m) (before.books other)
      ∙ forgets_at (has_root roots other) (has_root (root ∷ []) other) (has_root (protected_in t) other) (book_at t.books other)
      ∙ ap (λ (test : Bool). cond (test && not (has_root (protected_in t) other)) None (book_at t.books other)) (sym (list_any-append (λ (r : Root). root_eq r other) roots (root ∷ [])));
}

pub forgets_none : (t : State) → Forgets [] t t
forgets_none t = record { rest = refl; books = λ other. refl }

pub forgets_more : (roots : List Root) (i : ℕ) (d : Root) (t u v : State) → i < length roots → Forgets (take i roots) t u → Forgets (get_or roots i d ∷ []) u v → Forgets (take (i + 1) roots) t v
forgets_more roots i d t u v within before one =
    subst (λ (rs : List Root). Forgets rs t v) (sym (take_more roots i d within))
    (forgets_one_more (take i roots) (get_or roots i d) t u v before one)

pub forgets_seen_more : (seen : List LookedAt) (i : ℕ) (pair : LookedAt) (t u v : State) → i < length seen → pair ≡ get_or seen i pair → Forgets (roots_seen (take i seen)) t u → Forgets (pair.root ∷ []) u v
    → Forgets (roots_seen (take (i + 1) seen)) t v
forgets_seen_more seen i pair t u v within is before one =
    subst (λ (roots : List Root). Forgets roots t v)
    (sym (ap roots_seen (take_more seen i pair within) ∙ map-append (λ (p : LookedAt). p.root) (take i seen) (get_or seen i pair ∷ [])))
    (forgets_one_more (roots_seen (take i seen)) (get_or seen i pair).root t u v before (subst (λ (p : LookedAt). Forgets (p.root ∷ []) u v) is one))
