-- A test of each part of a text decides whether all of them pass.
use Rattle.std.proofs.Common.{ℕ, ◌<◌, Bool, true, false, List, [], length, All, IsTrue, refl, arith}
use Rattle.std.specs.Bool.{MatchBool}
use Rattle.std.specs.List.{AllWithin, HoldsAt}

pub decided : (P : List ℕ → Type 0) (xs : List (List ℕ)) (r : Bool) → MatchBool r (AllWithin P xs 0 (length xs)) ((k : ℕ) × (k < length xs) × HoldsAt (λ x. P x → ⊥) xs k)
    → (IsTrue r → All P xs) × (All P xs → IsTrue r)
decided P xs true h = (λ e k d lt. h k d (omega arith) lt, λ all. refl)
decided P xs false h = (λ e. cc, λ all. absurd (h.2 [] (all h.0 [] h.1)))
