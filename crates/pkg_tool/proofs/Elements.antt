-- A list of known length is its elements.
use Rattle.std.proofs.Common.{◌≡◌, ◌<◌, ◌≤◌, List, [], ◌∷◌, length, get_or, arith}

pub two_elements : {A : Type 0} (xs : List A) (a b : A) → 2 ≤ length xs → length xs < 3 → a ≡ get_or xs 0 a → b ≡ get_or xs 1 b → xs ≡ a ∷ b ∷ []
two_elements [] a b least below first second = absurd (omega arith)
two_elements (x ∷ []) a b least below first second = absurd (omega arith)
two_elements (x ∷ y ∷ []) a b least below first second = cc
two_elements (x ∷ y ∷ z ∷ xs) a b least below first second = absurd (omega arith)

pub four_elements : {A : Type 0} (xs : List A) (a b c d : A) → 4 ≤ length xs → length xs < 5 → a ≡ get_or xs 0 a → b ≡ get_or xs 1 b → c ≡ get_or xs 2 c → d ≡ get_or xs 3 d
    → xs ≡ a ∷ b ∷ c ∷ d ∷ []
four_elements [] a b c d least below first second third fourth = absurd (omega arith)
four_elements (x ∷ []) a b c d least below first second third fourth = absurd (omega arith)
four_elements (x ∷ y ∷ xs) a b c d least below first second third fourth =
    let rest = two_elements xs c d (omega arith) (omega arith) third fourth in cc
