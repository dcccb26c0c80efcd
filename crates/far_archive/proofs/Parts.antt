-- Parts of texts, and the numbers in them.
use Rattle.std.proofs.Common.{◌≡◌, ℕ, ◌+◌, ◌-◌, ◌^◌, ◌<◌, ◌≤◌, List, ◌++◌, length, take, drop, refl, sym, ap, ◌∙◌, inl, inr, arith}
use Rattle.std.specs.Int.{Width, w16, w32, w64, byte_len, to_le_bytes, from_le_bytes}
use Rattle.std.proofs.lemmas.Bool.{cases_lt}
use Rattle.std.proofs.lemmas.List.{take-take, drop-take, drop-drop, take-append-drop, length-take, length-drop, get_or-take, get_or-drop, get_or_past}
use Rattle.std.proofs.lemmas.Nat.{le_bytes_2, le_bytes_4, le_bytes_8, from_le_bytes-to_le_bytes_2, from_le_bytes-to_le_bytes_4, from_le_bytes-to_le_bytes_8}
use Rattle.pkg_names.specs.Numbers.{number_at}
use Rattle.pkg_names.proofs.NumberParts.{number_at-part}
use Rattle.far_archive.specs.Fields.{AreBytes, part}

pub AreBytes-part : (text : List ℕ) (at len : ℕ) → AreBytes text → AreBytes (part text at len)
AreBytes-part text at len h i =
    elim (cases_lt i len) [
      | inl lt ↦ rw (get_or-take len (drop at text) i 0 lt, get_or-drop) (h (at + i))
      | inr le ↦ rw (get_or_past (part text at len) i 0 (omega (arith, length-take len (drop at text)))) (omega arith)
    ]

pub length-part : (text : List ℕ) (at len : ℕ) → at + len ≤ length text → length (part text at len) ≡ len
length-part text at len le = omega (arith, length-take len (drop at text), length-drop at text)

-- a part of a part
pub part-part : (text : List ℕ) (at len from size : ℕ) → from + size ≤ len → part (part text at len) from size ≡ part text (at + from) size
part-part text at len from size le =
    let e : from + (len - from) ≡ len = omega arith in
    let dropped : drop from (take len (drop at text)) ≡ take (len - from) (drop from (drop at text)) =
    ap (λ (n : ℕ). drop from (take n (drop at text))) (sym e) ∙ drop-take from (len - from) (drop at text) in
    ap (λ (l : List ℕ). take size l) dropped ∙ take-take size (len - from) (drop from (drop at text)) (omega arith) ∙ ap (λ (l : List ℕ). take size l) (drop-drop from at text)

take-join : (m n : ℕ) (xs : List ℕ) → take m xs ++ take n (drop m xs) ≡ take (m + n) xs
take-join m n xs =
    let front : take m (take (m + n) xs) ≡ take m xs = take-take m (m + n) xs (omega arith) in
    ap (λ (l : List ℕ). l ++ take n (drop m xs)) (sym front) ∙ ap (λ (l : List ℕ). take m (take (m + n) xs) ++ l) (sym (drop-take m n xs)) ∙ take-append-drop m (take (m + n) xs)

-- two parts side by side
pub part-join : (text : List ℕ) (at m n : ℕ) → part text at m ++ part text (at + m) n ≡ part text at (m + n)
part-join text at m n = ap (λ (l : List ℕ). part text at m ++ take n l) (sym (drop-drop m at text)) ∙ take-join m n (drop at text)

-- ---- numbers

pub record IsWide (w : Width) (limit : ℕ) : Type 0 where
  pub len : (n : ℕ) → length (to_le_bytes w n) ≡ byte_len w
  pub back : (bytes : List ℕ) → length bytes ≡ byte_len w → AreBytes bytes → to_le_bytes w (from_le_bytes w bytes) ≡ bytes
  pub again : (n : ℕ) → n < limit → from_le_bytes w (to_le_bytes w n) ≡ n
  pub below : (bytes : List ℕ) → AreBytes bytes → from_le_bytes w bytes < limit

pub wide16 : IsWide w16 (2 ^ 16)
wide16 = record {
  len = λ n. refl;
  back = λ bytes len fits. le_bytes_2 bytes _ len fits refl;
  again = λ n lt. from_le_bytes-to_le_bytes_2 n lt;
  below = λ bytes fits. omega (arith, fits 0, fits 1);
}

pub wide32 : IsWide w32 (2 ^ 32)
wide32 = record {
  len = λ n. refl;
  back = λ bytes len fits. le_bytes_4 bytes _ len fits refl;
  again = λ n lt. from_le_bytes-to_le_bytes_4 n lt;
  below = λ bytes fits. omega (arith, fits 0, fits 1, fits 2, fits 3);
}

pub wide64 : IsWide w64 (2 ^ 64)
wide64 = record {
  len = λ n. refl;
  back = λ bytes len fits. le_bytes_8 bytes _ len fits refl;
  again = λ n lt. from_le_bytes-to_le_bytes_8 n lt;
  below = λ bytes fits. omega (arith, fits 0, fits 1, fits 2, fits 3, fits 4, fits 5, fits 6, fits 7);
}

-- what is read is what is written there
pub number_back : (w : Width) (limit : ℕ) (wide : IsWide w limit) (text : List ℕ) (at : ℕ) → AreBytes text → at + byte_len w ≤ length text → to_le_bytes w (number_at w text at) ≡ part text at (byte_len w)
number_back w limit wide text at fits le = ap (to_le_bytes w) (number_at-part w text at) ∙ wide.back (part text at (byte_len w)) (length-part text at (byte_len w) le) (AreBytes-part text at (byte_len w) fits)

pub number_below : (w : Width) (limit : ℕ) (wide : IsWide w limit) (text : List ℕ) (at : ℕ) → AreBytes text → number_at w text at < limit
number_below w limit wide text at fits = rw (number_at-part w text at) (wide.below (part text at (byte_len w)) (AreBytes-part text at (byte_len w) fits))

-- what is written there is read, where a part of the text has these bytes
pub number_again : (w : Width) (limit : ℕ) (wide : IsWide w limit) (text : List ℕ) (at len from n : ℕ) (bytes : List ℕ) → n < limit → from + byte_len w ≤ len
    → part text at len ≡ bytes → part bytes from (byte_len w) ≡ to_le_bytes w n → number_at w text (at + from) ≡ n
number_again w limit wide text at len from n bytes lt le is cell =
    let there : part text (at + from) (byte_len w) ≡ to_le_bytes w n = sym (part-part text at len from (byte_len w) le) ∙ ap (λ (l : List ℕ). part l from (byte_len w)) is ∙ cell in
    number_at-part w text (at + from) ∙ ap (from_le_bytes w) there ∙ wide.again n lt
