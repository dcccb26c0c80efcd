-- What is found in a list that has one more element, or from which some were taken away.
use Rattle.std.proofs.Common.{inl, inr, ◌≡◌, Bool, true, false, List, [], ◌∷◌, ◌++◌, Some, None, All, refl, sym, ◌∙◌}
use Rattle.std.specs.Prelude.{find, filter}
use Rattle.std.proofs.lemmas.Bool.{cases_Bool, true≢false}
use Rattle.std.proofs.lemmas.List.Elements.{All-head, All-tail, All-weaker, filter_passes}
use Rattle.std.proofs.lemmas.List.Folds.{find-append}

-- nothing is found where no element passes
pub find_none : {X : Type 0} (p : X → Bool) (xs : List X) → All (λ x. p x ≡ false) xs → find p xs ≡ None
find_none p [] fails = refl
find_none p (x ∷ xs) fails =
    rw (All-head (λ y. p y ≡ false) x xs fails) (find_none p xs (All-tail (λ y. p y ≡ false) x xs fails))

-- one more element is found where no other passes
pub find_last : {X : Type 0} (p : X → Bool) (xs : List X) (x : X) → All (λ y. p y ≡ false) xs → p x ≡ true → find p (xs ++ x ∷ []) ≡ Some x
find_last p xs x fails passes =
    find-append p xs (x ∷ []) ∙ rw (find_none p xs fails, passes) refl

-- one more element that doesn't pass changes nothing
pub find_other : {X : Type 0} (p : X → Bool) (xs : List X) (x : X) → p x ≡ false → find p (xs ++ x ∷ []) ≡ find p xs
find_other p [] x fails = rw fails refl
find_other p (y ∷ xs) x fails =
    elim (cases_Bool (p y)) [ inl holds ↦ rw holds refl | inr lacks ↦ rw lacks (find_other p xs x fails) ]

-- what was taken away isn't found
pub find_gone : {X : Type 0} (p q : X → Bool) → ((x : X) → p x ≡ true → q x ≡ false) → (xs : List X) → find p (filter q xs) ≡ None
find_gone p q h xs =
    find_none p (filter q xs)
    (All-weaker (λ x. q x ≡ true) (λ x. p x ≡ false)
    (λ x kept. elim (cases_Bool (p x)) [ inl holds ↦ absurd (true≢false (sym kept ∙ h x holds)) | inr lacks ↦ lacks ])
    (filter q xs) (filter_passes q xs))

-- what was not taken away is found as before
pub find_kept : {X : Type 0} (p q : X → Bool) → ((x : X) → p x ≡ true → q x ≡ true) → (xs : List X) → find p (filter q xs) ≡ find p xs
find_kept p q h [] = refl
find_kept p q h (x ∷ xs) =
    elim (cases_Bool (p x)) [
      | inl holds ↦ rw (h x holds, holds) refl
      | inr lacks ↦ elim (cases_Bool (q x)) [
        | inl stays ↦ rw (stays, lacks) (find_kept p q h xs)
        | inr goes ↦ rw (goes, lacks) (find_kept p q h xs)
      ]
    ]
