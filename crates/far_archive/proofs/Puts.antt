-- Writing one piece behind another.
use Rattle.std.proofs.Common.{◌≡◌, ℕ, ◌++◌, List, ap, ◌∙◌, append_assoc}

-- a piece behind what was written
pub with : (old now a b : List ℕ) → now ≡ old ++ a → a ≡ b → now ≡ old ++ b
with old now a b e f = e ∙ ap (λ (x : List ℕ). old ++ x) f

-- one more
pub then : (start old now a x b : List ℕ) → old ≡ start ++ a → now ≡ old ++ x → x ≡ b → now ≡ start ++ (a ++ b)
then start old now a x b e f g = f ∙ ap (λ (l : List ℕ). l ++ x) e ∙ append_assoc start a x ∙ ap (λ (l : List ℕ). start ++ (a ++ l)) g
