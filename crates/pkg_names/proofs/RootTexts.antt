-- A text of lower-case digits is the text of one root.
use Rattle.std.proofs.Common.{◌≡◌, ℕ, ◌+◌, ◌-◌, ◌*◌, ◌/◌, ◌%◌, ◌<◌, ◌≤◌, zero, suc, Bool, true, ◌&&◌, inl, inr, eqb, leb, List, [], ◌∷◌, length, slice_index, Ok, refl, ap, ◌∙◌, arith}
use Rattle.std.proofs.Common.{Some, None, IsSome, false, sym, subst}
use Rattle.std.specs.Bool.{Decides}
use Rattle.std.specs.List.{AllPass, list_all}
use Rattle.std.proofs.lemmas.List.Sums.{AllPass-from_list_all, list_all-from_AllPass}
use Rattle.std.proofs.lemmas.Bool.Decides.{Decides-like, Decides-and, Decides-eqb}
use Rattle.std.proofs.lemmas.Bool.{and_parts, cases_Bool, cases_lt, eqb-true, leb-true, or_cases}
use Rattle.std.proofs.lemmas.List.Elements.{All-head, All-tail, All-nil, All-cons}
use Rattle.hex.specs.Hex.{decode_sized, encode_lower, encode_with, lower_digits, IsBytes}
use Rattle.hex.proofs.HexLemmas.{length-encode_with, decode_sized-encode_lower}
use Rattle.pkg_names.specs.Root.{is_lower_digit, IsRootText, IsRoot, root_text, root_in}
use Rattle.pkg_names.specs.declared.root.Root.{Root}

-- the test of each number below n
abbrev passes : (ℕ → Bool) → ℕ → Bool
passes p zero = true
passes p (suc n) = p n && passes p n

pass_at : (p : ℕ → Bool) (n k : ℕ) → passes p n ≡ true → k < n → p k ≡ true
pass_at p zero k h lt = absurd (omega arith)
pass_at p (suc n) k h lt =
    let parts = and_parts (p n) (passes p n) h in
    elim (cases_lt k n) [
      | inl below ↦ pass_at p n k parts.1 below
      | inr top ↦
          let e : k ≡ n = omega arith in
          rw e parts.0
    ]

-- the digit that stands for a number below 16
digit_is_lower : (v : ℕ) → v < 16 → is_lower_digit (slice_index lower_digits v) ≡ true
digit_is_lower v lt = pass_at (λ k. is_lower_digit (slice_index lower_digits k)) 16 v refl lt

low_digit : (v : ℕ) → v < 10 → slice_index lower_digits v ≡ 48 + v
low_digit v lt = eqb-true (slice_index lower_digits v) (48 + v) (pass_at (λ k. eqb (slice_index lower_digits k) (48 + k)) 10 v refl lt)

high_digit : (v : ℕ) → v < 6 → slice_index lower_digits (10 + v) ≡ 97 + v
high_digit v lt = eqb-true (slice_index lower_digits (10 + v)) (97 + v) (pass_at (λ k. eqb (slice_index lower_digits (10 + k)) (97 + k)) 6 v refl lt)

-- the number that a lower-case digit stands for
number_of : (c : ℕ) → is_lower_digit c ≡ true → (v : ℕ) × (v < 16) × (slice_index lower_digits v ≡ c)
number_of c h =
    elim (or_cases (leb 48 c && leb c 57) (leb 97 c && leb c 102) h) [
      | inl low ↦
          let p = and_parts (leb 48 c) (leb c 57) low in
          let from : 48 ≤ c = leb-true 48 c p.0 in
          let to : c ≤ 57 = leb-true c 57 p.1 in
          (c - 48, omega arith, low_digit (c - 48) (omega arith) ∙ omega arith)
      | inr high ↦
          let p = and_parts (leb 97 c) (leb c 102) high in
          let from : 97 ≤ c = leb-true 97 c p.0 in
          let to : c ≤ 102 = leb-true c 102 p.1 in
          (10 + (c - 97), omega arith, high_digit (c - 97) (omega arith) ∙ omega arith)
    ]

-- the bytes that a text of lower-case digits is the text of
record Spelled (text : List ℕ) : Type 0 where
  bytes : List ℕ
  same : text ≡ encode_lower bytes
  twice : length text ≡ 2 * length bytes
  fits : IsBytes bytes

fits_after : (b : ℕ) (bytes : List ℕ) → b < 256 → IsBytes bytes → IsBytes (b ∷ bytes)
fits_after b bytes lt fits zero = lt
fits_after b bytes lt fits (suc i) = fits i

spelled : (text : List ℕ) → length text % 2 ≡ 0 → AllPass is_lower_digit text → Spelled text
unfolding encode_with
spelled [] even digits = record { bytes = []; same = refl; twice = refl; fits = λ i. omega arith }
spelled (a ∷ []) even digits = absurd (omega arith)
spelled (a ∷ b ∷ rest) even digits =
    let after = All-tail (λ c. is_lower_digit c ≡ true) a (b ∷ rest) digits in
    let high = number_of a (All-head (λ c. is_lower_digit c ≡ true) a (b ∷ rest) digits) in
    let low = number_of b (All-head (λ c. is_lower_digit c ≡ true) b rest after) in
    let others = spelled rest (omega arith) (All-tail (λ c. is_lower_digit c ≡ true) b rest after) in
    let front : (high.0 * 16 + low.0) / 16 ≡ high.0 = omega arith in
    let back : (high.0 * 16 + low.0) % 16 ≡ low.0 = omega arith in
    record {
      bytes = (high.0 * 16 + low.0) ∷ others.bytes;
      same = rw (front, back, high.2, low.2) (ap (λ (t : List ℕ). a ∷ b ∷ t) others.same);
      twice = omega (arith, others.twice);
      fits = fits_after (high.0 * 16 + low.0) others.bytes (omega arith) others.fits;
    }

-- what a root's text decodes to
pub decoded : (text : List ℕ) → IsRootText text → (bytes : List ℕ) × (decode_sized text 32 ≡ Ok bytes) × (text ≡ encode_lower bytes) × IsRoot (record { 0 = bytes })
decoded text root =
    let from = spelled text (omega (arith, root.length)) root.digits in
    let len : length from.bytes ≡ 32 = omega (arith, root.length, from.twice) in
    let read = decode_sized-encode_lower from.bytes 32 len from.fits in
    (from.bytes, ap (λ (t : List ℕ). decode_sized t 32) from.same ∙ read, from.same, record { length = len; bytes = from.fits })

digits_of : (bytes : List ℕ) → IsBytes bytes → AllPass is_lower_digit (encode_lower bytes)
unfolding encode_with
digits_of [] fits = All-nil (λ c. is_lower_digit c ≡ true)
digits_of (b ∷ rest) fits =
    let lt : b < 256 = fits 0 in
    All-cons (λ c. is_lower_digit c ≡ true) (slice_index lower_digits (b / 16)) (slice_index lower_digits (b % 16) ∷ encode_lower rest) (digit_is_lower (b / 16) (omega arith))
    (All-cons (λ c. is_lower_digit c ≡ true) (slice_index lower_digits (b % 16)) (encode_lower rest) (digit_is_lower (b % 16) (omega arith)) (digits_of rest (λ i. fits (suc i))))

pub is_text : (root : Root) → IsRoot root → IsRootText (root_text root)
is_text root is =
    let len = is.length in
    record {
      length = length-encode_with lower_digits root.0 ∙ omega arith;
      digits = digits_of root.0 is.bytes;
    }

pub read_again : (root : Root) → IsRoot root → decode_sized (root_text root) 32 ≡ Ok root.0
read_again root is = decode_sized-encode_lower root.0 32 is.length is.bytes

-- a text names one root
pub root_once : (root other : Root) → IsRoot root → IsRoot other → root_text root ≡ root_text other → root ≡ other
root_once root other is are same =
    let both = sym (read_again root is) ∙ (ap (λ (text : List ℕ). decode_sized text 32) same ∙ read_again other are) in
    let bytes : root.0 ≡ other.0 = cc in
    ap (λ (bs : List ℕ). let r : Root = record { 0 = bs } in r) bytes

-- ---- the root in a text

is_text_tested : (text : List ℕ) → Decides (eqb (length text) 64 && list_all is_lower_digit text) (IsRootText text)
is_text_tested text =
    let digits : Decides (list_all is_lower_digit text) (AllPass is_lower_digit text) = (AllPass-from_list_all is_lower_digit text, list_all-from_AllPass is_lower_digit text) in
    Decides-like _ (λ h. record { length = h.0; digits = h.1 }) (λ (is : IsRootText text). (is.length, is.digits)) (Decides-and _ _ (Decides-eqb (length text) 64) digits)

pub root_in_none : (text : List ℕ) → (IsRootText text → ⊥) → root_in text ≡ None
root_in_none text not_one =
    let test = eqb (length text) 64 && list_all is_lower_digit text in
    let off : test ≡ false = elim (cases_Bool test) [ inl passes_it ↦ absurd (not_one ((is_text_tested text).0 passes_it)) | inr is ↦ is ] in
    rw off refl

pub root_in_some : (text bytes : List ℕ) → IsRootText text → decode_sized text 32 ≡ Ok bytes → root_in text ≡ Some (record { 0 = bytes })
root_in_some text bytes is e = rw ((is_text_tested text).1 is, e) refl

pub root_in-root_text : (root : Root) → IsRoot root → root_in (root_text root) ≡ Some root
root_in-root_text root is = root_in_some (root_text root) root.0 (is_text root is) (read_again root is)

pub root_in_spells : (text : List ℕ) (root : Root) → root_in text ≡ Some root → (text ≡ root_text root) × IsRoot root
root_in_spells text root e =
    elim (cases_Bool (eqb (length text) 64 && list_all is_lower_digit text)) [
      | inl passes_it ↦
          let is = (is_text_tested text).0 passes_it in
          let d = decoded text is in
          let same : Some (record { 0 = d.0 }) ≡ Some root = sym (root_in_some text d.0 is d.1) ∙ e in
          let root_is : record { 0 = d.0 } ≡ root = cc in
          subst (λ (r : Root). (text ≡ root_text r) × IsRoot r) root_is (d.2, d.3)
      | inr fails ↦
          let none : root_in text ≡ None = rw fails refl in
          absurd cc
    ]

pub root_in_text : (text : List ℕ) (root : Root) → text ≡ root_text root → IsRoot root → root_in text ≡ Some root
root_in_text text root e is = ap root_in e ∙ root_in-root_text root is

pub root_in-IsSome : (text : List ℕ) → (IsSome (root_in text) → IsRootText text) × (IsRootText text → IsSome (root_in text))
root_in-IsSome text = (λ h. is_one (eqb (length text) 64 && list_all is_lower_digit text) refl h, λ is. has_one is) where
  is_one : (test : Bool) → eqb (length text) 64 && list_all is_lower_digit text ≡ test → IsSome (root_in text) → IsRootText text
  is_one true e h = (is_text_tested text).0 e
  is_one false e h = let none : root_in text ≡ None = rw e refl in absurd cc

  has_one : IsRootText text → IsSome (root_in text)
  has_one is = let d = decoded text is in let some = root_in_some text d.0 is d.1 in rw some refl
