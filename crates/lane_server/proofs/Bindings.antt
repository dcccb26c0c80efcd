-- What a name stands for once it was bound, or unbound.
use Rattle.std.proofs.Common.{inl, inr, ◌≡◌, ◌≢◌, ℕ, Bool, true, false, not, List, [], ◌∷◌, Option, Some, None, refl, sym, ap, ◌∙◌}
use Rattle.std.specs.Prelude.{find}
use Rattle.std.specs.Option.{option_map, option_or}
use Rattle.std.specs.Str.{bytes_eq}
use Rattle.std.proofs.lemmas.Bool.{cases_Bool}
use Rattle.std.proofs.lemmas.List.Folds.{find-append}
use Rattle.std.proofs.lemmas.Slice.Eq.{bytes_eq-Decides}
use Rattle.open_tracker.proofs.Finds.{find_gone, find_kept}
use Rattle.lane_server.specs.declared.names.Binding.{Binding}
use Rattle.lane_server.specs.Names.{number_or_zero, number_under, unbound, rebound}

abbrev has_name : List ℕ → Binding → Bool
has_name name b = bytes_eq b.name name

-- the number of what is found
abbrev number_in : Option Binding → ℕ
number_in found = number_or_zero (option_map (λ (b : Binding). b.number) found)

same_name : (name : List ℕ) → bytes_eq name name ≡ true
same_name name = (bytes_eq-Decides name name).1 refl

other_name : (name other : List ℕ) → other ≢ name → bytes_eq name other ≡ false
other_name name other isnt = elim (cases_Bool (bytes_eq name other)) [
  | inl is ↦ absurd (isnt (sym ((bytes_eq-Decides name other).0 is)))
  | inr is ↦ is
]

-- a binding of another name stays
stays : (name other : List ℕ) → other ≢ name → (b : Binding) → has_name other b ≡ true → not (has_name name b) ≡ true
stays name other isnt b is = elim (cases_Bool (bytes_eq b.name name)) [
  | inl same ↦ absurd (isnt (sym ((bytes_eq-Decides b.name other).0 is) ∙ (bytes_eq-Decides b.name name).0 same))
  | inr differs ↦ rw differs refl
]

gone : (names : List Binding) (name : List ℕ) → find (has_name name) (unbound names name) ≡ None
gone names name = find_gone (has_name name) (λ (b : Binding). not (bytes_eq b.name name)) (λ b is. rw is refl) names

kept : (names : List Binding) (name other : List ℕ) → other ≢ name → find (has_name other) (unbound names name) ≡ find (has_name other) names
kept names name other isnt = find_kept (has_name other) (λ (b : Binding). not (bytes_eq b.name name)) (stays name other isnt) names

pub stands_for_last : (names : List Binding) (name : List ℕ) (number : ℕ) → number_under (rebound names name number) name ≡ number
stands_for_last names name number =
    let b : Binding = record { name = name; number = number } in
    let found : find (has_name name) (rebound names name number) ≡ Some b =
    find-append (has_name name) (unbound names name) (b ∷ []) ∙ rw (gone names name, same_name name) refl in
    ap number_in found

pub stands_for_none : (names : List Binding) (name : List ℕ) → number_under (unbound names name) name ≡ 0
stands_for_none names name = ap number_in (gone names name)

pub stands_unbound : (names : List Binding) (name other : List ℕ) → other ≢ name → number_under (unbound names name) other ≡ number_under names other
stands_unbound names name other isnt = ap number_in (kept names name other isnt)

or_none : (x : Option Binding) → number_in (option_or x None) ≡ number_in x
or_none None = refl
or_none (Some b) = refl

pub stands_rebound : (names : List Binding) (name other : List ℕ) (number : ℕ) → other ≢ name → number_under (rebound names name number) other ≡ number_under names other
stands_rebound names name other number isnt =
    let b : Binding = record { name = name; number = number } in
    let found : find (has_name other) (rebound names name number) ≡ option_or (find (has_name other) names) None =
    find-append (has_name other) (unbound names name) (b ∷ []) ∙ rw (kept names name other isnt, other_name name other isnt) refl in
    ap number_in found ∙ or_none (find (has_name other) names)
