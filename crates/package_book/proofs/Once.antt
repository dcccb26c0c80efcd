-- Roots among others, and each once at its first place.
use Rattle.std.proofs.Common.{◌≡◌, Bool, true, false, cond, ◌||◌, not, List, [], ◌∷◌, ◌++◌, refl, sym, ap, subst, ◌∙◌, inl, inr, arith}
use Rattle.std.specs.Prelude.{◌⊎◌, Contains, filter}
use Rattle.std.specs.List.{IsDistinct}
use Rattle.std.proofs.lemmas.Bool.{cases_Bool}
use Rattle.std.proofs.lemmas.List.{append-nil}
use Rattle.std.proofs.lemmas.List.Elements.{All-weaker, All-from_recursion, recursion_from_All, All-contains, All-contains_itself, All-filter, filter_passes, filter-append, Contains-append_cases, Contains-append_right, Contains-push_cases}
use Rattle.std.proofs.lemmas.Map.Keys.{IsDistinct-head, IsDistinct-tail, IsDistinct-cons}
use Rattle.pkg_names.specs.declared.root.Root.{Root}
use Rattle.pkg_names.specs.Root.{root_eq}
use Rattle.pkg_names.proofs.Roots.{root_eq-true, root_eq-refl}
use Rattle.package_book.specs.Book.{each_once}
use Rattle.package_book.specs.Unprotected.{has_root}

-- ---- what a list contains

pub none_in : {X : Type 0} (x : X) → Contains [] x → ⊥
none_in x h = omega (arith, h.1)

pub here : {X : Type 0} (x : X) (xs : List X) → Contains (x ∷ xs) x
here x xs = (0, omega arith, refl)

pub there : {X : Type 0} (y x : X) (xs : List X) → Contains xs x → Contains (y ∷ xs) x
there y x xs h = Contains-append_right (y ∷ []) xs x h

only_one : {X : Type 0} (y x : X) → Contains (y ∷ []) x → y ≡ x
only_one y x h = elim (Contains-push_cases [] y x h) [ inl never ↦ absurd (none_in x never) | inr same ↦ same ]

pub first_or_later : {X : Type 0} (y x : X) (xs : List X) → Contains (y ∷ xs) x → (y ≡ x) ⊎ Contains xs x
first_or_later y x xs h =
    elim (Contains-append_cases (y ∷ []) xs x h) [
      | inl one ↦ inl (only_one y x one)
      | inr later ↦ inr later
    ]

pub from_filter : {X : Type 0} (p : X → Bool) (xs : List X) (x : X) → Contains (filter p xs) x → Contains xs x
from_filter p xs x h = All-contains (Contains xs) (filter p xs) x (All-filter p (Contains xs) xs (All-contains_itself xs)) h

pub passes_filter : {X : Type 0} (p : X → Bool) (xs : List X) (x : X) → Contains (filter p xs) x → p x ≡ true
passes_filter p xs x h = All-contains (λ y. p y ≡ true) (filter p xs) x (filter_passes p xs) h

pub to_filter : {X : Type 0} (p : X → Bool) (xs : List X) (x : X) → Contains xs x → p x ≡ true → Contains (filter p xs) x
to_filter p [] x h pass = absurd (none_in x h)
to_filter {X} p (y ∷ xs) x h pass =
    elim (first_or_later y x xs h) [
      | inl same ↦
          let passes : p y ≡ true = ap p same ∙ pass in
          subst (λ (z : X). Contains (cond (p y) (y ∷ filter p xs) (filter p xs)) z) same (rw passes (here y (filter p xs)))
      | inr later ↦
          elim (cases_Bool (p y)) [
            | inl passes ↦ rw passes (there y x (filter p xs) (to_filter p xs x later pass))
            | inr fails ↦ rw fails (to_filter p xs x later pass)
          ]
    ]

-- ---- the test of a list

pub has_root-true : (roots : List Root) (root : Root) → has_root roots root ≡ true → Contains roots root
has_root-true [] root h = absurd cc
has_root-true (other ∷ roots) root h =
    elim (cases_Bool (root_eq other root)) [
      | inl same ↦ subst (λ (r : Root). Contains (other ∷ roots) r) (root_eq-true other root same) (here other roots)
      | inr differs ↦ there other root roots (has_root-true roots root (rw differs at h))
    ]

pub has_root-Contains : (roots : List Root) (root : Root) → Contains roots root → has_root roots root ≡ true
has_root-Contains [] root h = absurd (none_in root h)
has_root-Contains (other ∷ roots) root h =
    elim (first_or_later other root roots h) [
      | inl same ↦ subst (λ (r : Root). (root_eq other r || has_root roots r) ≡ true) same (rw (root_eq-refl other) refl)
      | inr later ↦ or_true (root_eq other root) (has_root roots root) (has_root-Contains roots root later)
    ]
  where
    or_true : (a b : Bool) → b ≡ true → (a || b) ≡ true
    or_true true b e = refl
    or_true false b e = e

-- ---- each once

abbrev pub differs : Root → Root → Bool
differs root other = not (root_eq root other)

pub from_each_once : (roots : List Root) (root : Root) → Contains (each_once roots) root → Contains roots root
from_each_once [] root h = h
from_each_once (other ∷ roots) root h =
    elim (first_or_later other root (filter (differs other) (each_once roots)) h) [
      | inl same ↦ subst (λ (r : Root). Contains (other ∷ roots) r) same (here other roots)
      | inr later ↦ there other root roots (from_each_once roots root (from_filter (differs other) (each_once roots) root later))
    ]

-- another root than the one that is taken out
has_root-filter : (y x : Root) (roots : List Root) → root_eq y x ≡ false → has_root (filter (differs y) roots) x ≡ has_root roots x
has_root-filter y x [] other = refl
has_root-filter y x (z ∷ roots) other =
    elim (cases_Bool (root_eq y z)) [
      | inl same ↦
          let apart : root_eq z x ≡ false = ap (λ (r : Root). root_eq r x) (sym (root_eq-true y z same)) ∙ other in
          rw (same, apart) (has_root-filter y x roots other)
      | inr kept ↦ rw kept (ap (λ (b : Bool). root_eq z x || b) (has_root-filter y x roots other))
    ]

-- the same list, and one more root where it is new
abbrev pub with_new : List Root → Root → List Root
with_new roots root = cond (has_root roots root) roots (roots ++ root ∷ [])

put_behind : (y x : Root) (roots : List Root) → y ∷ filter (differs y) (with_new roots x) ≡ with_new (y ∷ filter (differs y) roots) x
put_behind y x roots =
    elim (cases_Bool (root_eq y x)) [
      | inl same ↦
          elim (cases_Bool (has_root roots x)) [
            | inl known ↦ rw (same, known) refl
            | inr new ↦ rw (same, new) (ap (λ (l : List Root). y ∷ l) (filter-append (differs y) roots (x ∷ []) ∙ rw same (append-nil (filter (differs y) roots))))
          ]
      | inr other ↦
          elim (cases_Bool (has_root roots x)) [
            | inl known ↦ rw (other, has_root-filter y x roots other, known) refl
            | inr new ↦ rw (other, has_root-filter y x roots other, new) (ap (λ (l : List Root). y ∷ l) (filter-append (differs y) roots (x ∷ []) ∙ rw other refl))
          ]
    ]

pub each_once-push : (roots : List Root) (root : Root) → each_once (roots ++ root ∷ []) ≡ with_new (each_once roots) root
each_once-push [] root = refl
each_once-push (other ∷ roots) root =
    ap (λ (l : List Root). other ∷ filter (differs other) l) (each_once-push roots root) ∙ put_behind other root (each_once roots)

-- ---- no root stands twice

no_more : (b : Bool) → not b ≡ true → b ≡ false
no_more true e = absurd cc
no_more false e = refl

IsDistinct-filter : (p : Root → Bool) (roots : List Root) → IsDistinct root_eq roots → IsDistinct root_eq (filter p roots)
IsDistinct-filter p [] distinct = distinct
IsDistinct-filter p (root ∷ roots) distinct =
    let rest = IsDistinct-filter p roots (IsDistinct-tail root_eq root roots distinct) in
    let apart : Root → Type 0 = λ other. root_eq root other ≡ false in
    elim (cases_Bool (p root)) [
      | inl passes ↦
          rw passes
          (IsDistinct-cons root_eq root (filter p roots)
          (recursion_from_All apart (filter p roots) (All-filter p apart roots (All-from_recursion apart roots (IsDistinct-head root_eq root roots distinct)))) rest)
      | inr fails ↦ rw fails rest
    ]

pub each_once-IsDistinct : (roots : List Root) → IsDistinct root_eq (each_once roots)
unfolding IsDistinct
each_once-IsDistinct [] = tt
each_once-IsDistinct (root ∷ roots) =
    let apart : Root → Type 0 = λ other. root_eq root other ≡ false in
    let others = filter (differs root) (each_once roots) in (
      recursion_from_All apart others (All-weaker (λ other. differs root other ≡ true) apart (λ other. no_more (root_eq root other)) others (filter_passes (differs root) (each_once roots))),
      IsDistinct-filter (differs root) (each_once roots) (each_once-IsDistinct roots),
    )
