-- Where a value is put into a list.
use Rattle.std.proofs.Common.{inl, inr, ◌≡◌, ℕ, zero, suc, ◌+◌, ◌<◌, ◌≤◌, Bool, true, false, List, [], ◌∷◌, ◌++◌, length, map, get_or, set, Some, None, All, refl, sym, ap, arith}
use Rattle.std.specs.Prelude.{nat_lt}
use Rattle.std.specs.List.{position, position_or_len, insert}
use Rattle.std.proofs.lemmas.Bool.{cases_Bool, ltb-false}
use Rattle.std.proofs.lemmas.List.Elements.{All-nil, All-cons, All-head, All-tail}
use Rattle.std.proofs.lemmas.List.Quantifiers.{position-Some}
use Rattle.repo_publish.specs.Lists.{put_in, put_before}

module _ {X : Type 0} (p : X → Bool) where
  past : (xs : List X) → length xs ≤ position_or_len p xs → All (λ x. p x ≡ false) xs
  past [] le = All-nil (λ x. p x ≡ false)
  past (x ∷ xs) le =
      elim (cases_Bool (p x)) [
        | inl holds ↦ absurd (let at : length (x ∷ xs) ≤ 0 = rw holds at le in omega arith)
        | inr lacks ↦ All-cons (λ y. p y ≡ false) x xs lacks (past xs (let at : suc (length xs) ≤ 1 + position_or_len p xs = rw lacks at le in omega arith))
      ]

  -- none passes where there is no place
  none_passes : (xs : List X) → position p xs ≡ None → All (λ x. p x ≡ false) xs
  none_passes xs none =
      elim (cases_Bool (nat_lt (position_or_len p xs) (length xs))) [
        | inl holds ↦ absurd (cc (rw holds at none))
        | inr lacks ↦ past xs (ltb-false _ _ lacks)
      ]

  in_last : (y : X) (xs : List X) → All (λ x. p x ≡ false) xs → put_in p y xs ≡ xs ++ y ∷ []
  in_last y [] none = refl
  in_last y (x ∷ xs) none =
      rw (All-head (λ z. p z ≡ false) x xs none)
      (ap (λ (rest : List X). x ∷ rest) (in_last y xs (All-tail (λ z. p z ≡ false) x xs none)))

  in_first : (y : X) (xs : List X) (i : ℕ) (d : X) → i < length xs → p (get_or xs i d) ≡ true → ((k : ℕ) → k < i → p (get_or xs k d) ≡ false) → set xs i y ≡ put_in p y xs
  in_first y [] i d lt at before = absurd (omega arith)
  in_first y (x ∷ xs) zero d lt at before = rw at refl
  in_first y (x ∷ xs) (suc i) d lt at before =
      rw (before 0 (omega arith))
      (ap (λ (rest : List X). x ∷ rest) (in_first y xs i d (omega arith) at (λ k below. before (suc k) (omega arith))))

  before_last : (y : X) (xs : List X) → All (λ x. p x ≡ false) xs → put_before p y xs ≡ xs ++ y ∷ []
  before_last y [] none = refl
  before_last y (x ∷ xs) none =
      rw (All-head (λ z. p z ≡ false) x xs none)
      (ap (λ (rest : List X). x ∷ rest) (before_last y xs (All-tail (λ z. p z ≡ false) x xs none)))

  before_first : (y : X) (xs : List X) (i : ℕ) (d : X) → i < length xs → p (get_or xs i d) ≡ true → ((k : ℕ) → k < i → p (get_or xs k d) ≡ false) → insert xs i y ≡ put_before p y xs
  before_first y [] i d lt at before = absurd (omega arith)
  before_first y (x ∷ xs) zero d lt at before = rw at refl
  before_first y (x ∷ xs) (suc i) d lt at before =
      rw (before 0 (omega arith))
      (ap (λ (rest : List X). x ∷ rest) (before_first y xs i d (omega arith) at (λ k below. before (suc k) (omega arith))))

  -- a value that is put at the first place, or last where there is none
  pub put_in_place : (y : X) (xs : List X) (i : ℕ) (d : X) → position p xs ≡ Some i → set xs i y ≡ put_in p y xs
  put_in_place y xs i d is =
      let at = position-Some p xs i d is in
      in_first y xs i d at.0 at.1 at.2

  pub put_in_end : (y : X) (xs : List X) → position p xs ≡ None → xs ++ y ∷ [] ≡ put_in p y xs
  put_in_end y xs none = sym (in_last y xs (none_passes xs none))

  pub put_before_place : (y : X) (xs : List X) (i : ℕ) (d : X) → position p xs ≡ Some i → insert xs i y ≡ put_before p y xs
  put_before_place y xs i d is =
      let at = position-Some p xs i d is in
      before_first y xs i d at.0 at.1 at.2

  pub put_before_end : (y : X) (xs : List X) → position p xs ≡ None → xs ++ y ∷ [] ≡ put_before p y xs
  put_before_end y xs none = sym (before_last y xs (none_passes xs none))

pub put_before-map : {X Y : Type 0} (f : X → Y) (p : Y → Bool) (y : X) (xs : List X) → map f (put_before (λ x. p (f x)) y xs) ≡ put_before p (f y) (map f xs)
put_before-map f p y [] = refl
put_before-map f p y (x ∷ xs) =
    elim (cases_Bool (p (f x))) [
      | inl holds ↦ rw holds refl
      | inr lacks ↦ rw lacks (ap (λ l. f x ∷ l) (put_before-map f p y xs))
    ]
