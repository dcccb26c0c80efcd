-- A text is cut at the first place of a byte in one way.
use Rattle.std.proofs.Common.{◌≡◌, ◌≢◌, ℕ, ◌+◌, ◌<◌, List, [], ◌∷◌, ◌++◌, length, get_or, take, drop, All, sym, ap, subst, ◌∙◌, refl, arith}
use Rattle.std.proofs.lemmas.List.{take-append-drop, drop_more, length-append, get_or_at}
use Rattle.std.proofs.lemmas.List.Elements.{All-head, All-tail}

-- lists without the byte before their first one
pub same_halves : (byte : ℕ) (a b c d : List ℕ) → All (λ x. x ≢ byte) a → All (λ x. x ≢ byte) c → a ++ byte ∷ b ≡ c ++ byte ∷ d → (a ≡ c) × (b ≡ d)
same_halves byte [] b [] d p q e = (refl, cc)
same_halves byte [] b (y ∷ c) d p q e =
    let head : y ≡ byte = cc in
    absurd (All-head (λ x. x ≢ byte) y c q head)
same_halves byte (x ∷ a) b [] d p q e =
    let head : x ≡ byte = cc in
    absurd (All-head (λ z. z ≢ byte) x a p head)
same_halves byte (x ∷ a) b (y ∷ c) d p q e =
    let head : x ≡ y = cc in
    let rest : a ++ byte ∷ b ≡ c ++ byte ∷ d = cc in
    let more = same_halves byte a b c d (All-tail (λ z. z ≢ byte) x a p) (All-tail (λ z. z ≢ byte) y c q) rest in
    (ap (λ (front : List ℕ). x ∷ front) more.0 ∙ ap (λ (z : ℕ). z ∷ c) head, more.1)

-- a text is cut at a place of the byte
pub cut_at : (byte : ℕ) (text : List ℕ) (at : ℕ) → at < length text → get_or text at 0 ≡ byte → text ≡ take at text ++ byte ∷ drop (at + 1) text
cut_at byte text at lt here =
    sym (take-append-drop at text) ∙ ap (λ (rest : List ℕ). take at text ++ rest) (drop_more text at 0 lt ∙ ap (λ (c : ℕ). c ∷ drop (at + 1) text) here)

-- a text without the byte is cut nowhere
pub has_the_byte : (byte : ℕ) (text front back : List ℕ) → All (λ c. c ≢ byte) text → text ≡ front ++ byte ∷ back → ⊥
has_the_byte byte text front back none e =
    subst (All (λ c. c ≢ byte)) e none (length front) 0 (omega (arith, length-append front (byte ∷ back))) (get_or_at front byte back 0 (length front) refl)
