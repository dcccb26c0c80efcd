-- Which packages are protected, by the six parts of the list; and what is lost of a list where one of its elements goes.
use Rattle.std.proofs.Common.{◌≡◌, ◌≢◌, All, inl, inr, ◌⊎◌, ℕ, zero, suc, Bool, true, false, not, ◌||◌, List, [], ◌∷◌, ◌++◌, map, refl, sym, ap, ◌∙◌, arith}
use Rattle.std.specs.Prelude.{find, filter}
use Rattle.std.specs.List.{AllPairs, list_any}
use Rattle.std.specs.Option.{option_map}
use Rattle.std.proofs.lemmas.Bool.{cases_Bool, true≢false, or_cases, or_parts, or_left, or_right, false_from_ne_true}
use Rattle.std.proofs.lemmas.List.Elements.{All-head, All-tail}
use Rattle.std.proofs.lemmas.List.Folds.{list_any-append}
use Rattle.pkg_names.specs.declared.root.Root.{Root}
use Rattle.pkg_names.specs.declared.pinned.Pinned.{Pinned}
use Rattle.pkg_names.specs.NameAndVariant.{NameAndVariant, path_eq}
use Rattle.pkg_names.specs.Root.{root_eq}
use Rattle.open_tracker.specs.declared.dirs.DirEntry.{DirEntry}
use Rattle.package_indexes.specs.declared.Arriving.{Arriving}
use Rattle.package_indexes.specs.Indexes.{root_at, with_root, roots_of}
use Rattle.fetch_queue.specs.declared.queue.MarkEntry.{MarkEntry}
use Rattle.store_model.specs.State.{State, Arrival, has_root, protected_in}
use Rattle.plain_state.specs.Views.{joined, AreMarked}
use Rattle.plain_state.specs.Learning.{listed}

-- ---- roots in lists

pub append_has : (xs ys : List Root) (root : Root) → has_root (xs ++ ys) root ≡ (has_root xs root || has_root ys root)
append_has xs ys root = list_any-append (λ other. root_eq other root) xs ys

pub either_has : (xs ys : List Root) (root : Root) → has_root (xs ++ ys) root ≡ true → (has_root xs root ≡ true) ⊎ (has_root ys root ≡ true)
either_has xs ys root among = or_cases (has_root xs root) (has_root ys root) (sym (append_has xs ys root) ∙ among)

pub left_has : (xs ys : List Root) (root : Root) → has_root xs root ≡ true → has_root (xs ++ ys) root ≡ true
left_has xs ys root among = append_has xs ys root ∙ or_left (has_root xs root) (has_root ys root) among

pub right_has : (xs ys : List Root) (root : Root) → has_root ys root ≡ true → has_root (xs ++ ys) root ≡ true
right_has xs ys root among = append_has xs ys root ∙ or_right (has_root xs root) (has_root ys root) among

pub any_of : {X : Type 0} (of : X → Root) (xs : List X) (root : Root) → has_root (map of xs) root ≡ list_any (λ x. root_eq (of x) root) xs
any_of of [] root = refl
any_of of (x ∷ xs) root = ap (λ later. root_eq (of x) root || later) (any_of of xs root)

-- ---- the six parts

abbrev pub arriving_roots : State → List Root
arriving_roots s = map (λ (a : Arrival). a.root) s.arriving

abbrev pub open_roots : List DirEntry → List Root
open_roots dirs = map (λ (d : DirEntry). d.root) dirs

abbrev four : State → List Root
four s = roots_of s.base ++ roots_of s.cached ++ roots_of s.active ++ s.retained

pub protected_parts : (s : State) (root : Root)
    → has_root (protected_in s) root
    ≡ (has_root (roots_of s.base) root || has_root (roots_of s.cached) root || has_root (roots_of s.active) root || has_root s.retained root || has_root (arriving_roots s) root || has_root (open_roots s.dirs) root)
protected_parts s root =
    append_has (four s ++ arriving_roots s) (open_roots s.dirs) root
    ∙ ap (λ b. b || has_root (open_roots s.dirs) root) (append_has (four s) (arriving_roots s) root
    ∙ ap (λ b. b || has_root (arriving_roots s) root) (append_has (roots_of s.base ++ roots_of s.cached ++ roots_of s.active) s.retained root
    ∙ ap (λ b. b || has_root s.retained root) (append_has (roots_of s.base ++ roots_of s.cached) (roots_of s.active) root
    ∙ ap (λ b. b || has_root (roots_of s.active) root) (append_has (roots_of s.base) (roots_of s.cached) root))))

-- one of the parts has it
pub by_part : (P : Type 0) (s : State) (root : Root) → has_root (protected_in s) root ≡ true
    → (has_root (roots_of s.base) root ≡ true → P) → (has_root (roots_of s.cached) root ≡ true → P) → (has_root (roots_of s.active) root ≡ true → P)
    → (has_root s.retained root ≡ true → P) → (has_root (arriving_roots s) root ≡ true → P) → (has_root (open_roots s.dirs) root ≡ true → P) → P
by_part P s root among b c a r v d =
    elim (either_has (four s ++ arriving_roots s) (open_roots s.dirs) root among) [
      | inr is_open ↦ d is_open
      | inl x ↦ elim (either_has (four s) (arriving_roots s) root x) [
        | inr arrives ↦ v arrives
        | inl x ↦ elim (either_has (roots_of s.base ++ roots_of s.cached ++ roots_of s.active) s.retained root x) [
          | inr is_retained ↦ r is_retained
          | inl x ↦ elim (either_has (roots_of s.base ++ roots_of s.cached) (roots_of s.active) root x) [
            | inr is_active ↦ a is_active
            | inl x ↦ elim (either_has (roots_of s.base) (roots_of s.cached) root x) [ inr is_cached ↦ c is_cached | inl is_based ↦ b is_based ]
          ]
        ]
      ]
    ]

-- no part has it
pub record IsInNone (s : State) (root : Root) : Type 0 where
  pub based : has_root (roots_of s.base) root ≡ false
  pub in_cache : has_root (roots_of s.cached) root ≡ false
  pub is_active : has_root (roots_of s.active) root ≡ false
  pub is_retained : has_root s.retained root ≡ false
  pub arrives : has_root (arriving_roots s) root ≡ false
  pub is_open : has_root (open_roots s.dirs) root ≡ false

neither_has : (xs ys : List Root) (root : Root) → has_root (xs ++ ys) root ≡ false → (has_root xs root ≡ false) × (has_root ys root ≡ false)
neither_has xs ys root passed = or_parts (has_root xs root) (has_root ys root) (sym (append_has xs ys root) ∙ passed)

pub in_none : (s : State) (root : Root) → has_root (protected_in s) root ≡ false → IsInNone s root
in_none s root passed =
    let p = neither_has (four s ++ arriving_roots s) (open_roots s.dirs) root passed in
    let q = neither_has (four s) (arriving_roots s) root p.0 in
    let r = neither_has (roots_of s.base ++ roots_of s.cached ++ roots_of s.active) s.retained root q.0 in
    let t = neither_has (roots_of s.base ++ roots_of s.cached) (roots_of s.active) root r.0 in
    let u = neither_has (roots_of s.base) (roots_of s.cached) root t.0 in
    record { based = u.0; in_cache = u.1; is_active = t.1; is_retained = r.1; arrives = q.1; is_open = p.1 }

pub from_dirs : (s : State) (root : Root) → has_root (open_roots s.dirs) root ≡ true → has_root (protected_in s) root ≡ true
from_dirs s root h = right_has (four s ++ arriving_roots s) (open_roots s.dirs) root h

pub from_arriving : (s : State) (root : Root) → has_root (arriving_roots s) root ≡ true → has_root (protected_in s) root ≡ true
from_arriving s root h = left_has (four s ++ arriving_roots s) (open_roots s.dirs) root (right_has (four s) (arriving_roots s) root h)

from_four : (s : State) (root : Root) → has_root (four s) root ≡ true → has_root (protected_in s) root ≡ true
from_four s root h = left_has (four s ++ arriving_roots s) (open_roots s.dirs) root (left_has (four s) (arriving_roots s) root h)

pub from_retained : (s : State) (root : Root) → has_root s.retained root ≡ true → has_root (protected_in s) root ≡ true
from_retained s root h = from_four s root (right_has (roots_of s.base ++ roots_of s.cached ++ roots_of s.active) s.retained root h)

from_three : (s : State) (root : Root) → has_root (roots_of s.base ++ roots_of s.cached ++ roots_of s.active) root ≡ true → has_root (protected_in s) root ≡ true
from_three s root h = from_four s root (left_has (roots_of s.base ++ roots_of s.cached ++ roots_of s.active) s.retained root h)

pub from_active : (s : State) (root : Root) → has_root (roots_of s.active) root ≡ true → has_root (protected_in s) root ≡ true
from_active s root h = from_three s root (right_has (roots_of s.base ++ roots_of s.cached) (roots_of s.active) root h)

from_two : (s : State) (root : Root) → has_root (roots_of s.base ++ roots_of s.cached) root ≡ true → has_root (protected_in s) root ≡ true
from_two s root h = from_three s root (left_has (roots_of s.base ++ roots_of s.cached) (roots_of s.active) root h)

pub from_cached : (s : State) (root : Root) → has_root (roots_of s.cached) root ≡ true → has_root (protected_in s) root ≡ true
from_cached s root h = from_two s root (right_has (roots_of s.base) (roots_of s.cached) root h)

pub from_base : (s : State) (root : Root) → has_root (roots_of s.base) root ≡ true → has_root (protected_in s) root ≡ true
from_base s root h = from_two s root (left_has (roots_of s.base) (roots_of s.cached) root h)

-- ---- one element more

pub last_has : {X : Type 0} (of : X → Root) (xs : List X) (x : X) (root : Root) → has_root (map of (xs ++ x ∷ [])) root ≡ true → (has_root (map of xs) root ≡ true) ⊎ (root_eq (of x) root ≡ true)
last_has of [] x root among = elim (or_cases (root_eq (of x) root) false among) [ inl here ↦ inr here | inr other ↦ absurd (true≢false (sym other)) ]
last_has of (y ∷ xs) x root among =
    elim (or_cases (root_eq (of y) root) (has_root (map of (xs ++ x ∷ [])) root) among) [
      | inl here ↦ inl (or_left (root_eq (of y) root) (has_root (map of xs) root) here)
      | inr later ↦ elim (last_has of xs x root later) [ inl there ↦ inl (or_right (root_eq (of y) root) (has_root (map of xs) root) there) | inr last ↦ inr last ]
    ]

pub more_has : {X : Type 0} (of : X → Root) (xs : List X) (x : X) (root : Root) → has_root (map of xs) root ≡ true → has_root (map of (xs ++ x ∷ [])) root ≡ true
more_has of [] x root among = absurd cc
more_has of (y ∷ xs) x root among =
    elim (or_cases (root_eq (of y) root) (has_root (map of xs) root) among) [
      | inl here ↦ or_left (root_eq (of y) root) (has_root (map of (xs ++ x ∷ [])) root) here
      | inr later ↦ or_right (root_eq (of y) root) (has_root (map of (xs ++ x ∷ [])) root) (more_has of xs x root later)
    ]

pub own_has : {X : Type 0} (of : X → Root) (xs : List X) (x : X) (root : Root) → root_eq (of x) root ≡ true → has_root (map of (xs ++ x ∷ [])) root ≡ true
own_has of [] x root is_root = or_left (root_eq (of x) root) false is_root
own_has of (y ∷ xs) x root is_root = or_right (root_eq (of y) root) (has_root (map of (xs ++ x ∷ [])) root) (own_has of xs x root is_root)

-- ---- what arrives, with its marks

pub joined_roots : (arriving : List Arriving) (marks : List MarkEntry) → AreMarked arriving marks → map (λ (a : Arrival). a.root) (joined arriving marks) ≡ map (λ (a : Arriving). a.root) arriving
joined_roots [] marks h = refl
joined_roots (a ∷ arriving) [] h = absurd h
joined_roots (a ∷ arriving) (m ∷ marks) h = ap (λ (rest : List Root). a.root ∷ rest) (joined_roots arriving marks h.1)

-- ---- one element goes

pub pairs_head : {X : Type 0} (R : X → X → Type 0) (x : X) (xs : List X) → AllPairs R (x ∷ xs) → All (R x) xs
pairs_head R x xs h = λ k d within. h zero (suc k) d (omega arith) (omega arith)

pub pairs_tail : {X : Type 0} (R : X → X → Type 0) (x : X) (xs : List X) → AllPairs R (x ∷ xs) → AllPairs R xs
pairs_tail R x xs h = λ i j d lt within. h (suc i) (suc j) d (omega arith) (omega arith)

pub kept_has : {X : Type 0} (of : X → Root) (q : X → Bool) (xs : List X) (root : Root) → has_root (map of (filter q xs)) root ≡ true → has_root (map of xs) root ≡ true
kept_has of q [] root among = absurd cc
kept_has of q (x ∷ xs) root among =
    elim (cases_Bool (q x)) [
      | inl stays ↦ elim (or_cases (root_eq (of x) root) (has_root (map of (filter q xs)) root) (rw stays at among)) [
        | inl here ↦ or_left (root_eq (of x) root) (has_root (map of xs) root) here
        | inr later ↦ or_right (root_eq (of x) root) (has_root (map of xs) root) (kept_has of q xs root later)
      ]
      | inr goes ↦ or_right (root_eq (of x) root) (has_root (map of xs) root) (kept_has of q xs root (rw goes at among))
    ]

others_stay : {X : Type 0} (number : X → ℕ) (p : X → Bool) → ((x y : X) → p x ≡ true → p y ≡ true → number x ≡ number y) → (x : X) (xs : List X) → p x ≡ true → All (λ y. number x ≢ number y) xs
    → filter (λ y. not (p y)) xs ≡ xs
others_stay number p same x [] passes apart = refl
others_stay number p same x (y ∷ xs) passes apart =
    let fails : p y ≡ false = false_from_ne_true (p y) (λ h. All-head (λ z. number x ≢ number z) y xs apart (same x y passes h)) in
    rw fails (ap (λ rest. y ∷ rest) (others_stay number p same x xs passes (All-tail (λ z. number x ≢ number z) y xs apart)))

-- What a list of elements with numbers, none of which stands twice, loses with one number is what was found under it.
pub lost_is_found : {X : Type 0} (number : X → ℕ) (p : X → Bool) (of : X → Root) → ((x y : X) → p x ≡ true → p y ≡ true → number x ≡ number y) → (xs : List X) → AllPairs (λ x y. number x ≢ number y) xs
    → (root : Root) → has_root (map of xs) root ≡ true → has_root (map of (filter (λ x. not (p x)) xs)) root ≡ false → has_root (listed (option_map of (find p xs))) root ≡ true
lost_is_found number p of same [] apart root among passed = absurd cc
lost_is_found number p of same (x ∷ xs) apart root among passed =
    elim (cases_Bool (p x)) [
      | inl goes ↦
          let left : filter (λ y. not (p y)) xs ≡ xs = others_stay number p same x xs goes (pairs_head (λ a b. number a ≢ number b) x xs apart) in
          let later : has_root (map of (filter (λ y. not (p y)) xs)) root ≡ false = rw goes at passed in
          let none : has_root (map of xs) root ≡ false = ap (λ rest. has_root (map of rest) root) (sym left) ∙ later in
          elim (or_cases (root_eq (of x) root) (has_root (map of xs) root) among) [
            | inl here ↦ rw goes (or_left (root_eq (of x) root) false here)
            | inr there ↦ absurd (true≢false (sym there ∙ none))
          ]
      | inr stays ↦
          let split = or_parts (root_eq (of x) root) (has_root (map of (filter (λ y. not (p y)) xs)) root) (rw stays at passed) in
          elim (or_cases (root_eq (of x) root) (has_root (map of xs) root) among) [
            | inl here ↦ absurd (true≢false (sym here ∙ split.0))
            | inr there ↦ rw stays (lost_is_found number p of same xs (pairs_tail (λ a b. number a ≢ number b) x xs apart) root there split.1)
          ]
    ]

-- ---- a path gets another root

pub replaced_is_found : (pairs : List Pinned) (path : NameAndVariant) (new root : Root) → has_root (roots_of pairs) root ≡ true → has_root (roots_of (with_root pairs path new)) root ≡ false
    → has_root (listed (root_at pairs path)) root ≡ true
replaced_is_found [] path new root among passed = absurd cc
replaced_is_found (pair ∷ pairs) path new root among passed =
    elim (cases_Bool (path_eq pair.path path)) [
      | inl same ↦
          let split = or_parts (root_eq new root) (has_root (roots_of pairs) root) (rw same at passed) in
          elim (or_cases (root_eq pair.root root) (has_root (roots_of pairs) root) among) [
            | inl here ↦ rw same (or_left (root_eq pair.root root) false here)
            | inr there ↦ absurd (true≢false (sym there ∙ split.1))
          ]
      | inr other ↦
          let split = or_parts (root_eq pair.root root) (has_root (roots_of (with_root pairs path new)) root) (rw other at passed) in
          elim (or_cases (root_eq pair.root root) (has_root (roots_of pairs) root) among) [
            | inl here ↦ absurd (true≢false (sym here ∙ split.0))
            | inr there ↦ rw other (replaced_is_found pairs path new root there split.1)
          ]
    ]

pub with_root_has : (pairs : List Pinned) (path : NameAndVariant) (new root : Root) → has_root (roots_of (with_root pairs path new)) root ≡ true
    → (has_root (roots_of pairs) root ≡ true) ⊎ (root_eq new root ≡ true)
with_root_has [] path new root among = elim (or_cases (root_eq new root) false among) [ inl here ↦ inr here | inr never ↦ absurd (cc never) ]
with_root_has (pair ∷ pairs) path new root among =
    elim (cases_Bool (path_eq pair.path path)) [
      | inl same ↦ elim (or_cases (root_eq new root) (has_root (roots_of pairs) root) (rw same at among)) [
        | inl here ↦ inr here
        | inr later ↦ inl (or_right (root_eq pair.root root) (has_root (roots_of pairs) root) later)
      ]
      | inr other ↦ elim (or_cases (root_eq pair.root root) (has_root (roots_of (with_root pairs path new)) root) (rw other at among)) [
        | inl here ↦ inl (or_left (root_eq pair.root root) (has_root (roots_of pairs) root) here)
        | inr later ↦ elim (with_root_has pairs path new root later) [ inl there ↦ inl (or_right (root_eq pair.root root) (has_root (roots_of pairs) root) there) | inr is_new ↦ inr is_new ]
      ]
    ]
