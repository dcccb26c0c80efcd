-- The books know exactly the protected packages that are stored; and a complete package stays complete
-- as long as it is protected.
use Rattle.std.proofs.Common.{inl, inr, ◌≡◌, ℕ, Bool, true, false, not, List, [], ◌∷◌, ◌++◌, map, Option, Some, None, is_some, All, refl, sym, ap, subst, ◌∙◌, ◌&&◌}
use Rattle.std.specs.Prelude.{Contains, nat_lt, filter, option_and_then}
use Rattle.std.specs.List.{list_all}
use Rattle.std.proofs.lemmas.Bool.{cases_Bool, true≢false, or_cases, or_left, or_right, and_parts, and_from}
use Rattle.std.proofs.lemmas.List.Elements.{All-nil, All-cons, All-weaker}
use Rattle.std.proofs.lemmas.List.Folds.{list_any-append, list_any_at}
use Rattle.pkg_names.specs.declared.root.Root.{Root}
use Rattle.pkg_names.specs.Root.{root_eq}
use Rattle.pkg_names.proofs.Roots.{root_eq-true, root_eq-same, root_eq-refl}
use Rattle.package_book.specs.declared.book.TheConstants.{META_LIMIT}
use Rattle.package_book.specs.Books.{Meta, Books, book_at}
use Rattle.package_book.specs.Books.Meta.{Read, Long}
use Rattle.package_book.specs.Names.{levels, names}
use Rattle.package_book.specs.Unprotected.{is_named, unprotected}
use Rattle.package_book.proofs.NameLaws.{has_itself, depends_on}
use Rattle.store_model.specs.declared.events.LookedAt.{LookedAt}
use Rattle.store_model.specs.declared.events.Event.{Event}
use Rattle.store_model.specs.State.{State, Stored, is_stored, stock_roots, has_root, without_blobs, protected_in}
use Rattle.store_model.specs.Packages.{book_of, the_book, known_book, is_complete}
use Rattle.store_model.specs.Settling.{with_looked, with_long, looked_books, kept_books, settle}
use Rattle.store_model.specs.Step.{IsDue, step}
use Rattle.store_model.specs.Sound.{KnowsExactly}
use Rattle.store_model.proofs.LanesLasting.{left_len}
use Rattle.store_model.proofs.Knowing.{cond_both, Knows, knows_more, kept_same, known_after}

-- ---- what is known

kept_passes : (books : Books) (packages : List Root) (stock : List Stored) (root : Root) → is_some (book_at (kept_books books packages stock) root) ≡ true → (has_root packages root && is_stored stock root) ≡ true
kept_passes [] packages stock root known = absurd cc
kept_passes (b ∷ books) packages stock root known =
    elim (cases_Bool (has_root packages b.root && is_stored stock b.root)) [
      | inl stays ↦ elim (cases_Bool (root_eq b.root root)) [
        | inl same ↦ subst (λ (r : Root). (has_root packages r && is_stored stock r) ≡ true) (root_eq-true b.root root same) stays
        | inr other ↦ kept_passes books packages stock root (rw (stays, other) at known)
      ]
      | inr goes ↦ kept_passes books packages stock root (rw goes at known)
    ]

pub knows_exactly : (s : State) (number : ℕ) (e : Event) → IsDue s number e → KnowsExactly (step s number e).books (protected_in (step s number e)) (step s number e).stock
knows_exactly s number e due = record {
  all = known_after s number e due;
  among = λ root known. (and_parts _ _ (kept_passes _ (protected_in (step s number e)) (step s number e).stock root known)).0;
  there = λ root known. (and_parts _ _ (kept_passes _ (protected_in (step s number e)) (step s number e).stock root known)).1;
}

pub knows_nothing : (stock : List Stored) → KnowsExactly [] [] stock
knows_nothing stock = record {
  all = λ root among there. absurd (true≢false (sym among));
  among = λ root known. absurd (true≢false (sym known));
  there = λ root known. absurd (true≢false (sym known));
}

-- ---- what is known stays as it is

same_front : (books more : Books) (root : Root) → Knows root books → book_at (books ++ more) root ≡ book_at books root
same_front [] more root known = absurd cc
same_front (b ∷ books) more root known =
    elim (cases_Bool (root_eq b.root root)) [
      | inl same ↦ rw same refl
      | inr other ↦ rw other (same_front books more root (rw other at known))
    ]

looked_same : (books : Books) (seen : List LookedAt) (root : Root) → Knows root books → book_at (with_looked books seen) root ≡ book_at books root
looked_same books [] root known = refl
looked_same books (pair ∷ seen) root known =
    let more : Books = record { root = pair.root; meta = Read pair.bytes } ∷ [] in
    cond_both (λ (bs : Books). book_at bs root ≡ book_at books root) (is_some (book_at books pair.root)) (with_looked books seen) (with_looked (books ++ more) seen)
    (looked_same books seen root known)
    (looked_same (books ++ more) seen root (knows_more books more root known) ∙ same_front books more root known)

long_same : (books : Books) (stock : List Stored) (root : Root) → Knows root books → book_at (with_long books stock) root ≡ book_at books root
long_same books [] root known = refl
long_same books (blob ∷ stock) root known =
    let more : Books = record { root = blob.root; meta = Long blob.len } ∷ [] in
    cond_both (λ (bs : Books). book_at bs root ≡ book_at books root) (nat_lt META_LIMIT blob.len && not (is_some (book_at books blob.root))) (with_long (books ++ more) stock) (with_long books stock)
    (long_same (books ++ more) stock root (knows_more books more root known) ∙ same_front books more root known)
    (long_same books stock root known)

-- what the books know of a package stays as it is while an event looks at blobs
pub all_same : (books : Books) (seen : List LookedAt) (stock : List Stored) (root : Root) → Knows root books → book_at (with_long (with_looked books seen) stock) root ≡ book_at books root
all_same books seen stock root known =
    let looked = looked_same books seen root known in
    long_same (with_looked books seen) stock root (ap (λ (m : Option Meta). is_some m) looked ∙ known) ∙ looked

-- ---- roots in lists

pub contains_has : (roots : List Root) (root : Root) → Contains roots root → has_root roots root ≡ true
contains_has roots root c = list_any_at (λ other. root_eq other root) roots c.0 root c.1 (root_eq-same _ root c.2)

pub all_pass : (p : Root → Bool) (roots : List Root) (root : Root) → list_all p roots ≡ true → has_root roots root ≡ true → p root ≡ true
all_pass p [] root all among = absurd cc
all_pass p (other ∷ roots) root all among =
    let parts = and_parts (p other) (list_all p roots) all in
    elim (or_cases (root_eq other root) (has_root roots root) among) [
      | inl same ↦ ap p (sym (root_eq-true other root same)) ∙ parts.0
      | inr later ↦ all_pass p roots root parts.1 later
    ]

all_from : (p : Root → Bool) (roots : List Root) → ((root : Root) → has_root roots root ≡ true → p root ≡ true) → list_all p roots ≡ true
all_from p [] each = refl
all_from p (root ∷ roots) each =
    and_from (p root) (list_all p roots) (each root (or_left (root_eq root root) (has_root roots root) (root_eq-refl root)))
    (all_from p roots (λ other among. each other (or_right (root_eq root other) (has_root roots other) among)))

-- each element's root is among the roots of all
pub each_in : {X : Type 0} (key : X → Root) (xs : List X) → All (λ x. has_root (map key xs) (key x) ≡ true) xs
each_in key [] = All-nil (λ x. has_root [] (key x) ≡ true)
each_in key (x ∷ xs) =
    All-cons (λ y. has_root (map key (x ∷ xs)) (key y) ≡ true) x xs
    (or_left (root_eq (key x) (key x)) (has_root (map key xs) (key x)) (root_eq-refl (key x)))
    (All-weaker (λ y. has_root (map key xs) (key y) ≡ true) (λ y. has_root (map key (x ∷ xs)) (key y) ≡ true) (λ y among. or_right (root_eq (key x) (key y)) (has_root (map key xs) (key y)) among) xs (each_in key xs))

pub has_left : (roots more : List Root) (root : Root) → has_root roots root ≡ true → has_root (roots ++ more) root ≡ true
has_left roots more root among = list_any-append (λ other. root_eq other root) roots more ∙ or_left (has_root roots root) (has_root more root) among

pub has_right : (roots more : List Root) (root : Root) → has_root more root ≡ true → has_root (roots ++ more) root ≡ true
has_right roots more root among = list_any-append (λ other. root_eq other root) roots more ∙ or_right (has_root roots root) (has_root more root) among

-- ---- complete packages

-- by these books and this stock the package is complete
abbrev pub complete_in : Books → List Stored → Root → Bool
complete_in books stock root = is_some (known_book books root) && list_all (is_stored stock) (names root books)

-- a package is its only level
names_same : (top : Root) (books others : Books) → book_at books top ≡ book_at others top → names top books ≡ names top others
unfolding levels
names_same top books others same =
    (depends_on top books others (λ root among. rw (ap (λ (r : Root). r) (only top root among)) same)).names where
      only : (a b : Root) → Contains (a ∷ []) b → b ≡ a
      only a b c = sym (root_eq-true a b (elim (or_cases (root_eq a b) false (contains_has (a ∷ []) b c)) [ inl same ↦ same | inr never ↦ absurd (true≢false (sym never)) ]))

complete_same : (books others : Books) (stock : List Stored) (root : Root) → book_at others root ≡ book_at books root → complete_in books stock root ≡ true → complete_in others stock root ≡ true
complete_same books others stock root same complete =
    let parts = and_parts (is_some (known_book books root)) (list_all (is_stored stock) (names root books)) complete in
    and_from (is_some (known_book others root)) (list_all (is_stored stock) (names root others))
    (ap (λ (m : Option Meta). is_some (option_and_then (λ meta. the_book (book_of meta)) m)) same ∙ parts.0)
    (ap (list_all (is_stored stock)) (names_same root others books same) ∙ parts.1)

pub complete_known : (books : Books) (stock : List Stored) (root : Root) → complete_in books stock root ≡ true → Knows root books
complete_known books stock root complete = known (book_at books root) (and_parts (is_some (known_book books root)) (list_all (is_stored stock) (names root books)) complete).0 where
  known : (m : Option Meta) → is_some (option_and_then (λ meta. the_book (book_of meta)) m) ≡ true → is_some m ≡ true
  known None e = e
  known (Some meta) e = refl

-- a complete package is stored itself
pub complete_stored : (books : Books) (stock : List Stored) (root : Root) → complete_in books stock root ≡ true → is_stored stock root ≡ true
complete_stored books stock root complete =
    let itself = has_itself root books in
    all_pass (is_stored stock) (names root books) root (and_parts (is_some (known_book books root)) (list_all (is_stored stock) (names root books)) complete).1
    (contains_has (names root books) root (itself.named root itself.level))

-- it stays so where all that it names stays stored
pub complete_more : (books : Books) (stock new : List Stored) (root : Root) → ((name : Root) → has_root (names root books) name ≡ true → is_stored stock name ≡ true → is_stored new name ≡ true) → complete_in books stock root ≡ true → complete_in books new root ≡ true
complete_more books stock new root keeps complete =
    let parts = and_parts (is_some (known_book books root)) (list_all (is_stored stock) (names root books)) complete in
    and_from (is_some (known_book books root)) (list_all (is_stored new) (names root books)) parts.0
    (all_from (is_stored new) (names root books) (λ name named. keeps name named (all_pass (is_stored stock) (names root books) name parts.1 named)))

-- it stays so where the books go on to know it
pub complete_looked : (books : Books) (seen : List LookedAt) (stock : List Stored) (root : Root) → complete_in books stock root ≡ true → complete_in (with_long (with_looked books seen) stock) stock root ≡ true
complete_looked books seen stock root complete =
    complete_same books (with_long (with_looked books seen) stock) stock root (all_same books seen stock root (complete_known books stock root complete)) complete

-- and where it is protected
pub complete_kept : (books : Books) (packages : List Root) (stock : List Stored) (root : Root) → complete_in books stock root ≡ true → has_root packages root ≡ true → complete_in (kept_books books packages stock) stock root ≡ true
complete_kept books packages stock root complete among =
    complete_same books (kept_books books packages stock) stock root (kept_same books packages stock root among (complete_stored books stock root complete)) complete

-- what is complete before the books are settled, and protected, is complete once they are
pub settles_complete : (seen : List LookedAt) (n : State) (root : Root) → complete_in (looked_books seen n) n.stock root ≡ true → has_root (protected_in n) root ≡ true → is_complete (settle seen n) root ≡ true
settles_complete seen n root complete among = complete_kept (looked_books seen n) (protected_in n) n.stock root complete among

-- ---- what stays stored

pub stored_more : (stock : List Stored) (blob : Stored) (root : Root) → is_stored stock root ≡ true → is_stored (stock ++ blob ∷ []) root ≡ true
stored_more [] blob root stored = absurd cc
stored_more (other ∷ stock) blob root stored =
    elim (cases_Bool (root_eq other.root root)) [
      | inl same ↦ rw same refl
      | inr differs ↦ rw differs (stored_more stock blob root (rw differs at stored))
    ]

pub stored_left : (stock : List Stored) (roots : List Root) (root : Root) → is_stored stock root ≡ true → has_root roots root ≡ false → is_stored (without_blobs stock roots) root ≡ true
stored_left stock roots root stored stays = ap (λ (o : Option ℕ). is_some o) (left_len stock roots root ∙ rw stays refl) ∙ stored

pub named_by : (tops : List Root) (books : Books) (top root : Root) → has_root tops top ≡ true → has_root (names top books) root ≡ true → is_named tops books root ≡ true
named_by [] books top root among named = absurd cc
named_by (other ∷ tops) books top root among named =
    elim (or_cases (root_eq other top) (has_root tops top) among) [
      | inl same ↦ or_left (has_root (names other books) root) (is_named tops books root) (ap (λ (t : Root). has_root (names t books) root) (root_eq-true other top same) ∙ named)
      | inr later ↦ or_right (has_root (names other books) root) (is_named tops books root) (named_by tops books top root later named)
    ]

pub not_left : (p : Root → Bool) (roots : List Root) (root : Root) → p root ≡ true → has_root (filter (λ r. not (p r)) roots) root ≡ false
not_left p [] root named = refl
not_left p (other ∷ roots) root named =
    elim (cases_Bool (p other)) [
      | inl goes ↦ rw goes (not_left p roots root named)
      | inr stays ↦ elim (cases_Bool (root_eq other root)) [
        | inl same ↦ absurd (true≢false (sym named ∙ ap p (sym (root_eq-true other root same)) ∙ stays))
        | inr differs ↦ rw (stays, differs) (not_left p roots root named)
      ]
    ]

-- a collection leaves what a protected package names
pub collected_stored : (stock : List Stored) (packages : List Root) (books : Books) (top root : Root) → has_root packages top ≡ true → has_root (names top books) root ≡ true → is_stored stock root ≡ true
    → is_stored (without_blobs stock (unprotected (stock_roots stock) packages books)) root ≡ true
collected_stored stock packages books top root among named stored =
    stored_left stock (unprotected (stock_roots stock) packages books) root stored
    (not_left (is_named packages books) (stock_roots stock) root (named_by packages books top root among named))
