-- How many lanes hold, as one of them goes.
use Rattle.std.proofs.Common.{◌≡◌, ◌≤◌, ◌+◌, suc, Bool, true, false, cond, not, List, [], ◌∷◌, length, filter, Option, Some, None, refl, arith}
use Rattle.std.specs.Prelude.{find, IsSomeAnd}

pub no_longer : {X : Type 0} (q : X → Bool) (xs : List X) → length (filter q xs) ≤ length xs
no_longer q [] = omega arith
no_longer q (x ∷ xs) = first (q x) (no_longer q xs) where
  first : (t : Bool) → length (filter q xs) ≤ length xs → length (cond t (x ∷ filter q xs) (filter q xs)) ≤ suc (length xs)
  first true h = omega (arith, h)
  first false h = omega (arith, h)

-- what is found is one that goes
pub shorter : {X : Type 0} (p : X → Bool) (x : X) (xs : List X) → find p xs ≡ Some x → length (filter (λ y. not (p y)) xs) + 1 ≤ length xs
shorter p x [] h = absurd cc
shorter p x (y ∷ ys) h = first (p y) (shorter p x ys) h where
  first : (t : Bool) → (find p ys ≡ Some x → length (filter (λ z. not (p z)) ys) + 1 ≤ length ys) → cond t (Some y) (find p ys) ≡ Some x
      → length (cond (not t) (y ∷ filter (λ z. not (p z)) ys) (filter (λ z. not (p z)) ys)) + 1 ≤ suc (length ys)
  first true on e = omega (arith, no_longer (λ z. not (p z)) ys)
  first false on e = omega (arith, on e)

-- what is there
pub record Found (X : Type 0) (o : Option X) (P : X → Type 0) : Type 0 where
  pub it : X
  pub is : o ≡ Some it
  pub holds : P it

pub found : {X : Type 0} (o : Option X) (P : X → Type 0) → IsSomeAnd o P → Found X o P
found None P h = absurd h
found (Some x) P h = record { it = x; is = refl; holds = h }
