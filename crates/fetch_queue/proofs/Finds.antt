-- What is found in a list that has one more element, whose elements are changed, or from which some were taken away.
use Rattle.std.proofs.Common.{inl, inr, ◌≡◌, ◌≢◌, ◌<◌, Bool, true, false, not, List, [], ◌∷◌, ◌++◌, map, length, get_or, Some, None, All, refl, sym, ap, subst, ◌∙◌, arith}
use Rattle.std.specs.Prelude.{find, filter}
use Rattle.std.specs.List.{AllPairs}
use Rattle.std.specs.Option.{option_map}
use Rattle.std.proofs.lemmas.Bool.{cases_Bool}
use Rattle.std.proofs.lemmas.List.{get_or-map, length-map}
use Rattle.std.proofs.lemmas.List.Elements.{All-nil, All-cons, All-head, All-tail}

pub find_none : {X : Type 0} (p : X → Bool) (xs : List X) → All (λ x. p x ≡ false) xs → find p xs ≡ None
find_none p [] fails = refl
find_none p (x ∷ xs) fails =
    rw (All-head (λ y. p y ≡ false) x xs fails) (find_none p xs (All-tail (λ y. p y ≡ false) x xs fails))

-- and back: where nothing is found no element passes
pub none_passes : {X : Type 0} (p : X → Bool) (xs : List X) → find p xs ≡ None → All (λ x. p x ≡ false) xs
none_passes p [] none = All-nil (λ x. p x ≡ false)
none_passes p (x ∷ xs) none =
    elim (cases_Bool (p x)) [
      | inl holds ↦ absurd (cc (rw holds at none))
      | inr lacks ↦ All-cons (λ y. p y ≡ false) x xs lacks (none_passes p xs (rw lacks at none))
    ]

-- the first that passes, behind others that don't
pub find_first : {X : Type 0} (p : X → Bool) (before : List X) (x : X) (after : List X) → All (λ y. p y ≡ false) before → p x ≡ true → find p (before ++ x ∷ after) ≡ Some x
find_first p [] x after fails passes = rw passes refl
find_first p (y ∷ before) x after fails passes =
    rw (All-head (λ z. p z ≡ false) y before fails)
    (find_first p before x after (All-tail (λ z. p z ≡ false) y before fails) passes)

-- what is found passes
pub found_passes : {X : Type 0} (p : X → Bool) (xs : List X) (x : X) → find p xs ≡ Some x → p x ≡ true
found_passes p [] x found = absurd (cc found)
found_passes p (y ∷ xs) x found =
    elim (cases_Bool (p y)) [
      | inl holds ↦
          let here : Some y ≡ Some x = rw holds at found in
          let same : y ≡ x = cc here in
          subst (λ z. p z ≡ true) same holds
      | inr lacks ↦ found_passes p xs x (rw lacks at found)
    ]

-- what was taken away isn't found
pub find_gone : {X : Type 0} (p : X → Bool) (xs : List X) → find p (filter (λ x. not (p x)) xs) ≡ None
find_gone p [] = refl
find_gone p (x ∷ xs) =
    elim (cases_Bool (p x)) [ inl holds ↦ rw holds (find_gone p xs) | inr lacks ↦ rw (lacks, lacks) (find_gone p xs) ]

-- what was not taken away is found as before
pub find_kept : {X : Type 0} (p q : X → Bool) → ((x : X) → p x ≡ true → q x ≡ true) → (xs : List X) → find p (filter q xs) ≡ find p xs
find_kept p q h [] = refl
find_kept p q h (x ∷ xs) =
    elim (cases_Bool (p x)) [
      | inl holds ↦ rw (h x holds, holds) refl
      | inr lacks ↦ elim (cases_Bool (q x)) [
        | inl stays ↦ rw (stays, lacks) (find_kept p q h xs)
        | inr goes ↦ rw (goes, lacks) (find_kept p q h xs)
      ]
    ]

-- what is found is changed as its element is
pub find-map : {X : Type 0} (p : X → Bool) (f : X → X) → ((x : X) → p (f x) ≡ p x) → (xs : List X) → find p (map f xs) ≡ option_map f (find p xs)
find-map p f same [] = refl
find-map p f same (x ∷ xs) =
    elim (cases_Bool (p x)) [ inl holds ↦ rw (same x, holds) refl | inr lacks ↦ rw (same x, lacks) (find-map p f same xs) ]

-- elements with keys of their own have them still where each keeps its key
pub AllPairs-map : {X K : Type 0} (key : X → K) (f : X → X) → ((x : X) → key (f x) ≡ key x) → (xs : List X) → AllPairs (λ a b. key a ≢ key b) xs → AllPairs (λ a b. key a ≢ key b) (map f xs)
AllPairs-map key f same xs apart i j d lt within =
    let long = length-map xs f in
    let inside : j < length xs = omega (arith, long) in
    let first = ap key (get_or-map f xs i d d (omega arith)) ∙ same (get_or xs i d) in
    let second = ap key (get_or-map f xs j d d inside) ∙ same (get_or xs j d) in
    λ e. apart i j d lt inside (sym first ∙ e ∙ second)
