-- The pages of an image, joined, are its bytes.
use Rattle.std.proofs.Common.{◌≡◌, ℕ, zero, suc, ◌+◌, ◌-◌, ◌*◌, ◌≤◌, List, [], ◌++◌, length, take, drop, replicate, sym, ◌∙◌, ap, inl, inr, arith, length-append, length-drop, append_assoc}
use Rattle.std.specs.List.{flat_map, range_with_len}
use Rattle.std.proofs.lemmas.List.{take_all, drop_all, length-take, length-replicate, take-append-drop, replicate-append-replicate, append-nil, drop-drop}
use Rattle.std.proofs.lemmas.Bool.{cases_lt}
use Rattle.slot_disk.specs.Filling.{filled, page_of}

-- bytes with zeros behind them, up to this number
abbrev filled_to : ℕ → List ℕ → List ℕ
filled_to n bytes = bytes ++ replicate (n - length bytes) 0

pub length-filled : (bytes : List ℕ) → length bytes ≤ 4096 → length (filled bytes) ≡ 4096
unfolding filled
length-filled bytes short =
    let zero_byte : ℕ = 0 in
    omega (arith, length-append bytes (replicate (4096 - length bytes) zero_byte), length-replicate (4096 - length bytes) zero_byte)

pub length-page_of : (image : List ℕ) (i : ℕ) → length (page_of image i) ≡ 4096
length-page_of image i =
    length-filled (take 4096 (drop (4096 * i) image)) (omega (arith, length-take 4096 (drop (4096 * i) image)))

-- a full page is filled already
pub filled-full : (bytes : List ℕ) → length bytes ≡ 4096 → filled bytes ≡ bytes
unfolding filled
filled-full bytes full =
    let none : 4096 - length bytes ≡ 0 = omega arith in
    ap (λ (k : ℕ). bytes ++ replicate k 0) none ∙ append-nil bytes

-- the first page and what the pages behind it have
front : (bytes : List ℕ) (n : ℕ) → filled (take 4096 bytes) ++ filled_to n (drop 4096 bytes) ≡ filled_to (4096 + n) bytes
unfolding filled
front bytes n =
    let back : List ℕ = drop 4096 bytes in
    elim (cases_lt (length bytes) 4096) [
      | inl short ↦
          let whole : take 4096 bytes ≡ bytes = take_all 4096 bytes (omega arith) in
          let none : back ≡ [] = drop_all 4096 bytes (omega arith) in
          let zeros : replicate (4096 - length bytes) 0 ++ replicate (n - 0) 0 ≡ replicate (4096 + n - length bytes) 0 =
          replicate-append-replicate (4096 - length bytes) (n - 0) 0 ∙ ap (λ (k : ℕ). replicate k 0) (omega arith) in
          ap (λ (page : List ℕ). filled page ++ filled_to n back) whole
          ∙ ap (λ (rest : List ℕ). filled bytes ++ filled_to n rest) none
          ∙ append_assoc bytes (replicate (4096 - length bytes) 0) (replicate (n - 0) 0)
          ∙ ap (λ (rest : List ℕ). bytes ++ rest) zeros
      | inr long ↦
          let size : length (take 4096 bytes) ≡ 4096 = omega (arith, length-take 4096 bytes) in
          let count : n - length back ≡ 4096 + n - length bytes = omega (arith, length-drop 4096 bytes) in
          ap (λ (page : List ℕ). page ++ filled_to n back) (filled-full (take 4096 bytes) size)
          ∙ sym (append_assoc (take 4096 bytes) back (replicate (n - length back) 0))
          ∙ ap (λ (whole : List ℕ). whole ++ replicate (n - length back) 0) (take-append-drop 4096 bytes)
          ∙ ap (λ (k : ℕ). bytes ++ replicate k 0) count
    ]

joined-from : (n a : ℕ) (image : List ℕ) → length image ≤ 4096 * (a + n) → flat_map (page_of image) (range_with_len a n) ≡ filled_to (4096 * n) (drop (4096 * a) image)
joined-from zero a image short =
    let none : drop (4096 * a) image ≡ [] = drop_all (4096 * a) image (omega arith) in
    sym (ap (filled_to 0) none)
joined-from (suc n) a image short =
    let rest : List ℕ = drop (4096 * a) image in
    let next : drop (4096 * (a + 1)) image ≡ drop 4096 rest =
    ap (λ (k : ℕ). drop k image) (omega arith) ∙ sym (drop-drop 4096 (4096 * a) image) in
    let behind = joined-from n (a + 1) image (omega arith) ∙ ap (filled_to (4096 * n)) next in
    ap (λ (pages : List ℕ). page_of image a ++ pages) behind ∙ front rest (4096 * n)
    ∙ ap (λ (k : ℕ). filled_to k rest) (omega arith)

-- the pages of an image, one behind the other
pub flat_map-page_of : (image : List ℕ) (count : ℕ) → length image ≤ 4096 * count → flat_map (page_of image) (range_with_len 0 count) ≡ image ++ replicate (4096 * count - length image) 0
flat_map-page_of image count short = joined-from count 0 image (omega arith)
