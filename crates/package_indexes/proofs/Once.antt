-- Each root once.
use Rattle.std.proofs.Common.{ℕ, suc, ◌+◌, ◌<◌, length, get_or, take, drop, arith, inl, inr, ◌≡◌, ◌≢◌, Bool, true, false, not, List, [], ◌∷◌, ◌++◌, ◌||◌, refl, sym, ap, ◌∙◌}
use Rattle.std.specs.Prelude.{filter}
use Rattle.std.specs.List.{remove}
use Rattle.std.proofs.lemmas.List.{take_more}
use Rattle.std.proofs.lemmas.Grind.{common_steps}
use Rattle.std.proofs.lemmas.Bool.{cases_Bool, or_cases, or_parts, not_from_false, not_from_true, false_from_ne_true, true≢false}
use Rattle.std.proofs.lemmas.List.Elements.{filter-append}
use Rattle.std.proofs.lemmas.Map.Views.{any-filter_same}
use Rattle.pkg_names.specs.declared.root.Root.{Root}
use Rattle.pkg_names.specs.Root.{root_eq}
use Rattle.pkg_names.proofs.Roots.{root_eq-true, root_eq-same, root_eq-refl}
use Rattle.package_indexes.specs.Sets.{has_root, each_once}

-- the roots but one
abbrev pub others : Root → List Root → List Root
others root roots = filter (λ other. not (root_eq other root)) roots

filter_twice : {X : Type 0} (p : X → Bool) (xs : List X) → filter p (filter p xs) ≡ filter p xs
filter_twice p [] = refl
filter_twice p (x ∷ xs) =
    elim (cases_Bool (p x)) [
      | inl holds ↦ rw (holds, holds) (ap (λ rest. x ∷ rest) (filter_twice p xs))
      | inr lacks ↦ rw lacks (filter_twice p xs)
    ]

filter_swap : {X : Type 0} (p q : X → Bool) (xs : List X) → filter p (filter q xs) ≡ filter q (filter p xs)
filter_swap p q [] = refl
filter_swap p q (x ∷ xs) =
    elim (cases_Bool (p x)) [
      | inl holds ↦ elim (cases_Bool (q x)) [
        | inl in' ↦ rw (in', holds, in') (ap (λ rest. x ∷ rest) (filter_swap p q xs))
        | inr out ↦ rw (out, holds, out) (filter_swap p q xs)
      ]
      | inr lacks ↦ elim (cases_Bool (q x)) [
        | inl in' ↦ rw (in', lacks) (filter_swap p q xs)
        | inr out ↦ rw (out, lacks) (filter_swap p q xs)
      ]
    ]

-- a root that stands there already, among those that aren't it
other_rest : (root : Root) (front rest : List Root) → others root (each_once (front ++ root ∷ rest)) ≡ others root (each_once (front ++ rest))
other_rest root [] rest =
    rw (root_eq-refl root) (filter_twice (λ other. not (root_eq other root)) (each_once rest))
other_rest root (x ∷ front) rest =
    let commute = λ (xs : List Root). filter_swap (λ other. not (root_eq other root)) (λ other. not (root_eq other x)) xs in
    let inner : others root (others x (each_once (front ++ root ∷ rest))) ≡ others root (others x (each_once (front ++ rest))) =
    commute (each_once (front ++ root ∷ rest)) ∙ ap (others x) (other_rest root front rest) ∙ sym (commute (each_once (front ++ rest))) in
    elim (cases_Bool (root_eq x root)) [
      | inl holds ↦ rw holds inner
      | inr lacks ↦ rw lacks (ap (λ (xs : List Root). x ∷ xs) inner)
    ]

-- a root that stands before is left out
pub again_within : (front : List Root) (root : Root) (rest : List Root) → has_root front root ≡ true → each_once (front ++ root ∷ rest) ≡ each_once (front ++ rest)
again_within [] root rest has = absurd (true≢false (sym has))
again_within (x ∷ front) root rest has =
    elim (or_cases (root_eq x root) (has_root front root) has) [
      | inl holds ↦ rw (root_eq-true x root holds) (ap (λ (xs : List Root). root ∷ xs) (other_rest root front rest))
      | inr later ↦ ap (λ (xs : List Root). x ∷ others x xs) (again_within front root rest later)
    ]

-- a root that doesn't stand before is last
pub next_last : (roots : List Root) (root : Root) → has_root roots root ≡ false → each_once (roots ++ root ∷ []) ≡ each_once roots ++ root ∷ []
next_last [] root new = refl
next_last (x ∷ roots) root new =
    let parts = or_parts (root_eq x root) (has_root roots root) new in
    let other : root_eq root x ≡ false = false_from_ne_true _ (λ same. true≢false (sym (root_eq-same x root (sym (root_eq-true root x same))) ∙ parts.0)) in
    ap (λ (xs : List Root). x ∷ xs)
    (ap (others x) (next_last roots root parts.1) ∙ filter-append (λ o. not (root_eq o x)) (each_once roots) (root ∷ []) ∙ rw other refl)

pub same_roots : (roots : List Root) (root : Root) → has_root (each_once roots) root ≡ has_root roots root
same_roots [] root = refl
same_roots (x ∷ roots) root =
    elim (cases_Bool (root_eq x root)) [
      | inl holds ↦ rw holds refl
      | inr lacks ↦ rw lacks
          (any-filter_same (λ other. root_eq other root) (λ other. not (root_eq other x)) true
          (λ other is. not_from_false _ (false_from_ne_true _ (λ same. true≢false (sym (root_eq-same x root (sym (root_eq-true other x same) ∙ root_eq-true other root is)) ∙ lacks))))
          (each_once roots) ∙ same_roots roots root)
    ]

-- a root that stands before its place is taken out there
pub dropped_again : (roots : List Root) (k : ℕ) (root : Root) → k < length roots → root ≡ get_or roots k root → has_root (take k roots) root ≡ true → each_once (remove roots k) ≡ each_once roots
dropped_again roots k root lt is has =
    let parts : roots ≡ take k roots ++ root ∷ drop (suc k) roots = grind (arith, common_steps) in
    sym (ap each_once parts ∙ again_within (take k roots) root (drop (suc k) roots) has)

pub front_stays : (roots : List Root) (k : ℕ) → k < length roots → take k (remove roots k) ≡ take k roots
front_stays roots k lt = grind (arith, common_steps)

pub front_grows : (roots : List Root) (k : ℕ) (d : Root) → k < length roots → each_once (take k roots) ≡ take k roots → has_root (take k roots) (get_or roots k d) ≡ false → each_once (take (k + 1) roots) ≡ take (k + 1) roots
front_grows roots k d lt front new =
    rw (take_more roots k d lt)
    (next_last (take k roots) (get_or roots k d) new ∙ ap (λ (xs : List Root). xs ++ get_or roots k d ∷ []) front)
