-- The register of the CRC: what a bit and a byte make of it can be undone, so two lists that differ in one byte
-- end with two registers.
use Rattle.std.proofs.Common.{ℕ, zero, suc, ◌≡◌, ◌⊎◌, ◌+◌, ◌/◌, ◌%◌, ◌^◌, ◌<◌, List, [], ◌∷◌, length, bit_xor, fold, slice_index, slice_set, codes, All, sym, refl, ap, ◌∙◌, subst, inl, inr, lit<, arith}
use Rattle.std.specs.List.{AllByRecursion}
use Rattle.std.specs.Int.Bits.{xor_assoc, xor_self, xor_zero_r}
use Rattle.std.proofs.lemmas.Nat.{xor_lt, xor_shr}
use Rattle.std.proofs.lemmas.Bool.{eq-eqb, ne_eqb, cond-true, cond-false}
use Rattle.abr_record.specs.Crc.{polynomial, all_ones, shifted, shifted_times, after_byte, crc32}

-- an exclusive or is undone by another
undone : (x c : ℕ) → bit_xor (bit_xor x c) c ≡ x
undone x c = xor_assoc x c c ∙ ap (bit_xor x) (xor_self c) ∙ xor_zero_r x

pub xor_same : (a b c : ℕ) → bit_xor a c ≡ bit_xor b c → a ≡ b
xor_same a b c e = sym (undone a c) ∙ ap (λ x. bit_xor x c) e ∙ undone b c

xor_before : (a b : ℕ) → bit_xor a (bit_xor a b) ≡ b
xor_before a b = sym (xor_assoc a a b) ∙ ap (λ x. bit_xor x b) (xor_self a)

pub xor_same_before : (c a b : ℕ) → bit_xor c a ≡ bit_xor c b → a ≡ b
xor_same_before c a b e = sym (xor_before c a) ∙ ap (bit_xor c) e ∙ xor_before c b

-- ---- one bit

pub shifted-even : (r : ℕ) → r % 2 ≡ 0 → shifted r ≡ r / 2
unfolding shifted
shifted-even r even = cond-false _ _ _ (ne_eqb (r % 2) 1 (λ odd. omega arith))

pub shifted-odd : (r : ℕ) → r % 2 ≡ 1 → shifted r ≡ bit_xor (r / 2) polynomial
unfolding shifted
shifted-odd r odd = cond-true _ _ _ (eq-eqb (r % 2) 1 odd)

parity : (r : ℕ) → (r % 2 ≡ 0) ⊎ (r % 2 ≡ 1)
parity r = parts (r % 2) (omega arith)
  where
    parts : (n : ℕ) → n < 2 → (n ≡ 0) ⊎ (n ≡ 1)
    parts zero _ = inl refl
    parts (suc zero) _ = inr refl
    parts (suc (suc n)) h = absurd (omega arith)

polynomial_below : polynomial < 2 ^ 32
polynomial_below = lit< tt

-- the polynomial's highest bit tells that it went in
high_bit : (r : ℕ) → r < 2 ^ 31 → bit_xor r polynomial / 2 ^ 31 ≡ 1
high_bit r small =
    let none : r / 2 ^ 31 ≡ 0 = omega arith in
    xor_shr r polynomial 31 ∙ ap (λ x. bit_xor x (polynomial / 2 ^ 31)) none

pub shifted_below : (r : ℕ) → r < 2 ^ 32 → shifted r < 2 ^ 32
shifted_below r small = elim (parity r) [
  | inl even ↦ subst (λ x. x < 2 ^ 32) (sym (shifted-even r even)) (omega arith)
  | inr odd ↦ subst (λ x. x < 2 ^ 32) (sym (shifted-odd r odd)) (xor_lt 32 (r / 2) polynomial (omega arith) polynomial_below)
]

apart : (r s : ℕ) → r < 2 ^ 32 → s < 2 ^ 32 → r / 2 ≡ bit_xor (s / 2) polynomial → ⊥
apart r s fits_r fits_s e =
    let one : r / 2 / 2 ^ 31 ≡ 1 = ap (λ x. x / 2 ^ 31) e ∙ high_bit (s / 2) (omega arith) in
    omega arith

pub shifted_same : (r s : ℕ) → r < 2 ^ 32 → s < 2 ^ 32 → shifted r ≡ shifted s → r ≡ s
shifted_same r s fits_r fits_s e = elim (parity r) [
  | inl even ↦ elim (parity s) [
    | inl even_s ↦
        let halves : r / 2 ≡ s / 2 = sym (shifted-even r even) ∙ e ∙ shifted-even s even_s in
        omega arith
    | inr odd_s ↦ absurd (apart r s fits_r fits_s (sym (shifted-even r even) ∙ e ∙ shifted-odd s odd_s))
  ]
  | inr odd ↦ elim (parity s) [
    | inl even_s ↦ absurd (apart s r fits_s fits_r (sym (shifted-even s even_s) ∙ sym e ∙ shifted-odd r odd))
    | inr odd_s ↦
        let halves : r / 2 ≡ s / 2 = xor_same (r / 2) (s / 2) polynomial (sym (shifted-odd r odd) ∙ e ∙ shifted-odd s odd_s) in
        omega arith
  ]
]

pub shifted_times_more : (n r : ℕ) → shifted (shifted_times n r) ≡ shifted_times (n + 1) r
unfolding shifted_times
shifted_times_more n r = ap (λ m. shifted_times m r) (let e : suc n ≡ n + 1 = omega arith in e)

pub shifted_times_below : (n r : ℕ) → r < 2 ^ 32 → shifted_times n r < 2 ^ 32
unfolding shifted_times
shifted_times_below zero r small = small
shifted_times_below (suc n) r small = shifted_below _ (shifted_times_below n r small)

pub shifted_times_same : (n r s : ℕ) → r < 2 ^ 32 → s < 2 ^ 32 → shifted_times n r ≡ shifted_times n s → r ≡ s
unfolding shifted_times
shifted_times_same zero r s fits_r fits_s e = e
shifted_times_same (suc n) r s fits_r fits_s e =
    shifted_times_same n r s fits_r fits_s
    (shifted_same _ _ (shifted_times_below n r fits_r) (shifted_times_below n s fits_s) e)

-- ---- one byte

xored_below : (r byte : ℕ) → r < 2 ^ 32 → byte < 256 → bit_xor r byte < 2 ^ 32
xored_below r byte fits small = xor_lt 32 r byte fits (omega arith)

pub after_byte_below : (r byte : ℕ) → r < 2 ^ 32 → byte < 256 → after_byte r byte < 2 ^ 32
unfolding after_byte
after_byte_below r byte fits small = shifted_times_below 8 _ (xored_below r byte fits small)

same_register : (r s byte : ℕ) → r < 2 ^ 32 → s < 2 ^ 32 → byte < 256 → after_byte r byte ≡ after_byte s byte → r ≡ s
unfolding after_byte
same_register r s byte fits_r fits_s small e =
    xor_same r s byte (shifted_times_same 8 _ _ (xored_below r byte fits_r small) (xored_below s byte fits_s small) e)

same_byte : (r x y : ℕ) → r < 2 ^ 32 → x < 256 → y < 256 → after_byte r x ≡ after_byte r y → x ≡ y
unfolding after_byte
same_byte r x y fits small_x small_y e =
    xor_same_before r x y (shifted_times_same 8 _ _ (xored_below r x fits small_x) (xored_below r y fits small_y) e)

-- ---- many bytes

abbrev AreBytes : List ℕ → Type 0
AreBytes = AllByRecursion (λ b. b < 256)

fold_below : (xs : List ℕ) (r : ℕ) → AreBytes xs → r < 2 ^ 32 → fold after_byte r xs < 2 ^ 32
fold_below [] r all fits = fits
fold_below (x ∷ xs) r all fits = fold_below xs (after_byte r x) all.1 (after_byte_below r x fits all.0)

fold_same : (xs : List ℕ) (r s : ℕ) → AreBytes xs → r < 2 ^ 32 → s < 2 ^ 32 → fold after_byte r xs ≡ fold after_byte s xs → r ≡ s
fold_same [] r s all fits_r fits_s e = e
fold_same (x ∷ xs) r s all fits_r fits_s e =
    same_register r s x fits_r fits_s all.0
    (fold_same xs (after_byte r x) (after_byte s x) all.1 (after_byte_below r x fits_r all.0) (after_byte_below s x fits_s all.0) e)

fold_seen : (xs : List ℕ) (i byte r : ℕ) → AreBytes xs → byte < 256 → i < length xs → r < 2 ^ 32
    → fold after_byte r (slice_set xs i byte) ≡ fold after_byte r xs → byte ≡ slice_index xs i
fold_seen [] i byte r all small within fits e = absurd (omega arith)
fold_seen (x ∷ xs) zero byte r all small within fits e =
    same_byte r byte x fits small all.0
    (fold_same xs (after_byte r byte) (after_byte r x) all.1 (after_byte_below r byte fits small) (after_byte_below r x fits all.0) e)
fold_seen (x ∷ xs) (suc i) byte r all small within fits e =
    fold_seen xs i byte (after_byte r x) all.1 small (omega arith) (after_byte_below r x fits all.0) e

are_bytes : (xs : List ℕ) → All (λ b. b < 256) xs → AreBytes xs
are_bytes [] all = tt
are_bytes (x ∷ xs) all = (all 0 0 (omega arith), are_bytes xs (λ k d within. all (suc k) d (omega arith)))

pub crc_below : (xs : List ℕ) → All (λ b. b < 256) xs → crc32 xs < 2 ^ 32
unfolding crc32
crc_below xs all = xor_lt 32 (fold after_byte all_ones xs) all_ones (fold_below xs all_ones (are_bytes xs all) (lit< tt)) (lit< tt)

-- two lists of bytes that differ in one place have two CRCs
pub crc_seen : (xs : List ℕ) (i byte : ℕ) → All (λ b. b < 256) xs → byte < 256 → i < length xs
    → crc32 (slice_set xs i byte) ≡ crc32 xs → byte ≡ slice_index xs i
unfolding crc32
crc_seen xs i byte all small within e =
    fold_seen xs i byte all_ones (are_bytes xs all) small within (lit< tt)
    (xor_same (fold after_byte all_ones (slice_set xs i byte)) (fold after_byte all_ones xs) all_ones e)

-- the CRC's published check value
pub crc_of_digits : crc32 (codes "123456789") ≡ 0xcbf43926
unfolding crc32 after_byte shifted_times shifted
crc_of_digits = refl
