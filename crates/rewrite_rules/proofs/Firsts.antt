-- Where the first element that passes stands.
use Rattle.std.proofs.Common.{◌≡◌, ℕ, ◌<◌, Bool, true, false, List, length, get_or, Option, Some, None, inl, inr, sym, ap, subst, ◌∙◌}
use Rattle.std.specs.Prelude.{nat_lt, find, slice_get}
use Rattle.std.specs.List.{position, position_or_len}
use Rattle.std.proofs.lemmas.Bool.{cases_Bool, ltb-true, ltb-false}
use Rattle.std.proofs.lemmas.List.Folds.{find_at}
use Rattle.std.proofs.lemmas.Option.{slice_get-get_or, slice_get_past}

module _ {X : Type 0} (p : X → Bool) (xs : List X) where
  pub placed : (place : ℕ) → position p xs ≡ Some place → (position_or_len p xs ≡ place) × (place < length xs)
  placed place e =
      elim (cases_Bool (nat_lt (position_or_len p xs) (length xs))) [
        | inl on ↦
            let found : Some (position_or_len p xs) ≡ Some place = rw on at e in
            let same : position_or_len p xs ≡ place = cc in
            (same, subst (λ (n : ℕ). n < length xs) same (ltb-true (position_or_len p xs) (length xs) on))
        | inr off ↦ absurd (cc (rw off at e))
      ]

  -- it is found
  pub found_there : (place : ℕ) → position p xs ≡ Some place → find p xs ≡ slice_get xs place
  found_there place e = find_at p xs ∙ ap (slice_get xs) (placed place e).0

  pub found_as : (place : ℕ) (x : X) → position p xs ≡ Some place → x ≡ get_or xs place x → find p xs ≡ Some x
  found_as place x e is = found_there place e ∙ slice_get-get_or xs place x (placed place e).1 ∙ ap (λ (y : X). Some y) (sym is)

  pub not_found : position p xs ≡ None → find p xs ≡ None
  not_found e =
      elim (cases_Bool (nat_lt (position_or_len p xs) (length xs))) [
        | inl on ↦ absurd (cc (rw on at e))
        | inr off ↦ find_at p xs ∙ slice_get_past xs (position_or_len p xs) (ltb-false (position_or_len p xs) (length xs) off)
      ]
