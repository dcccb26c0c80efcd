-- What an input of SHA-256 tells: the level of a first block, and the contents of its block.
use Rattle.std.proofs.Common.{◌≡◌, ◌≢◌, ℕ, zero, suc, ◌+◌, ◌-◌, ◌*◌, ◌/◌, ◌%◌, ◌^◌, ◌<◌, ◌≤◌, List, [], ◌++◌, length, take, drop, replicate, refl, sym, ap, ◌∙◌, inl, inr, arith, length-append, length-drop, length-take}
use Rattle.std.proofs.lemmas.List.{append_assoc, take_at, take_all, take-append-le, take-take, take-replicate, drop_at, drop-append-le, drop-drop, drop-take, length-replicate}
use Rattle.std.proofs.lemmas.Bool.{cases_lt}
use Rattle.std.proofs.lemmas.Nat.{from_le_bytes-to_le_bytes_4, from_le_bytes-to_le_bytes_8}
use Rattle.std.specs.Int.{w32, w64, to_le_bytes, from_le_bytes}
use Rattle.std.specs.Int.Bits.{bit_or, or_zero_l}
use Rattle.pkg_merkle.specs.Merkle.{block, block_input, filling, head, told_size}
use Rattle.pkg_merkle.specs.Binding.{IsLevel, zero_digest}

same_front : (p q r s : List ℕ) → length p ≡ length q → p ++ r ≡ q ++ s → p ≡ q
same_front p q r s size e = sym (take_at p r (length q) size) ∙ ap (λ (l : List ℕ). take (length q) l) e ∙ take_at q s (length q) refl

same_back : (p q r s : List ℕ) → length p ≡ length q → p ++ r ≡ q ++ s → r ≡ s
same_back p q r s size e = sym (drop_at p r (length q) size) ∙ ap (λ (l : List ℕ). drop (length q) l) e ∙ drop_at q s (length q) refl

length-head : (level i size : ℕ) → length (head level i size) ≡ 12
unfolding head
length-head level i size = refl

-- a head tells its size
head-size : (level i m n : ℕ) → m < 2 ^ 32 → n < 2 ^ 32 → head level i m ≡ head level i n → m ≡ n
unfolding head
head-size level i m n small small' e =
    let offset : List ℕ = to_le_bytes w64 (bit_or (8192 * i) level) in
    let sizes : to_le_bytes w32 m ≡ to_le_bytes w32 n = same_back offset offset (to_le_bytes w32 m) (to_le_bytes w32 n) refl e in
    sym (from_le_bytes-to_le_bytes_4 m small) ∙ ap (λ (l : List ℕ). from_le_bytes w32 l) sizes ∙ from_le_bytes-to_le_bytes_4 n small'

-- and that of a first block its level
head-level : (m n s t : ℕ) → m < 2 ^ 64 → n < 2 ^ 64 → head m 0 s ≡ head n 0 t → m ≡ n
unfolding head
head-level m n s t small small' e =
    let offsets : to_le_bytes w64 (bit_or 0 m) ≡ to_le_bytes w64 (bit_or 0 n) =
    same_front (to_le_bytes w64 (bit_or 0 m)) (to_le_bytes w64 (bit_or 0 n)) (to_le_bytes w32 s) (to_le_bytes w32 t) refl e in
    let levels = ap (λ k. to_le_bytes w64 k) (sym (or_zero_l m)) ∙ offsets ∙ ap (λ k. to_le_bytes w64 k) (or_zero_l n) in
    sym (from_le_bytes-to_le_bytes_8 m small) ∙ ap (λ (l : List ℕ). from_le_bytes w64 l) levels ∙ from_le_bytes-to_le_bytes_8 n small'

-- an input is its head, and the contents with their filling
block_input-parts : (level i : ℕ) (contents : List ℕ) → block_input level i contents ≡ head level i (told_size level contents) ++ (contents ++ filling contents)
unfolding block_input
block_input-parts level i contents = append_assoc (head level i (told_size level contents)) contents (filling contents)

input-head : (m n i j : ℕ) (c d : List ℕ) → block_input m i c ≡ block_input n j d → head m i (told_size m c) ≡ head n j (told_size n d)
input-head m n i j c d e =
    let sizes = length-head m i (told_size m c) ∙ sym (length-head n j (told_size n d)) in
    same_front (head m i (told_size m c)) (head n j (told_size n d)) (c ++ filling c) (d ++ filling d) sizes
    (sym (block_input-parts m i c) ∙ e ∙ block_input-parts n j d)

input-filled : (m n i j : ℕ) (c d : List ℕ) → block_input m i c ≡ block_input n j d → c ++ filling c ≡ d ++ filling d
input-filled m n i j c d e =
    let sizes = length-head m i (told_size m c) ∙ sym (length-head n j (told_size n d)) in
    same_back (head m i (told_size m c)) (head n j (told_size n d)) (c ++ filling c) (d ++ filling d) sizes
    (sym (block_input-parts m i c) ∙ e ∙ block_input-parts n j d)

-- the input of a first block tells its level
pub input-level : (m n : ℕ) (c d : List ℕ) → m < 2 ^ 64 → n < 2 ^ 64 → block_input m 0 c ≡ block_input n 0 d → m ≡ n
input-level m n c d small small' e = head-level m n (told_size m c) (told_size n d) small small' (input-head m n 0 0 c d e)

length-filled : (c : List ℕ) → length (c ++ filling c) ≡ length c + (8192 - length c) % 8192
length-filled c = length-append c (filling c) ∙ ap (λ n. length c + n) (length-replicate ((8192 - length c) % 8192) 0)

-- hashes that aren't the zero digest are no filling
filled-apart : (c d : List ℕ) → length c < length d → length d ≤ 8192 → length c % 32 ≡ 0 → length d % 32 ≡ 0
    → ((i : ℕ) → 32 * i < length d → take 32 (drop (32 * i) d) ≢ zero_digest) → c ++ filling c ≡ d ++ filling d → ⊥
filled-apart c d less within width width' hashes e =
    let k : ℕ = length c / 32 in
    let at : 32 * k ≡ length c = omega arith in
    let sizes : length (c ++ filling c) ≡ length (d ++ filling d) = ap length e in
    let size_c = length-filled c in
    let size_d = length-filled d in
    let room : 32 ≤ (8192 - length c) % 8192 = omega arith in
    let rest : length (drop (length c) d) ≡ length d - length c = length-drop (length c) d in
    let long : 32 ≤ length (drop (length c) d) = omega arith in
    let right : take 32 (drop (length c) (d ++ filling d)) ≡ take 32 (drop (length c) d) =
    ap (λ (l : List ℕ). take 32 l) (drop-append-le (length c) d (filling d) (omega arith)) ∙ take-append-le 32 (drop (length c) d) (filling d) long in
    let left : take 32 (drop (length c) (c ++ filling c)) ≡ zero_digest =
    ap (λ (l : List ℕ). take 32 l) (drop_at c (filling c) (length c) refl) ∙ take-replicate 32 ((8192 - length c) % 8192) 0 room in
    let zeros : take 32 (drop (length c) d) ≡ zero_digest = sym right ∙ ap (λ (l : List ℕ). take 32 (drop (length c) l)) (sym e) ∙ left in
    hashes k (omega arith) (ap (λ n. take 32 (drop n d)) at ∙ zeros)

-- blocks of one input have the same contents
pub same_contents : (level i : ℕ) (c d : List ℕ) → length c ≤ 8192 → length d ≤ 8192 → IsLevel level c → IsLevel level d
    → block_input level i c ≡ block_input level i d → c ≡ d
same_contents zero i c d within within' left right e =
    let size : length c ≡ length d = head-size 0 i (length c) (length d) (omega arith) (omega arith) (input-head 0 0 i i c d e) in
    same_front c d (filling c) (filling d) size (input-filled 0 0 i i c d e)
same_contents (suc level) i c d within within' left right e =
    let filled = input-filled (suc level) (suc level) i i c d e in
    let above : 0 < suc level = omega arith in
    elim (cases_lt (length c) (length d)) [
      | inl less ↦ absurd (filled-apart c d less within' (left.width above) (right.width above) (right.hashes above) filled)
      | inr most ↦ elim (cases_lt (length d) (length c)) [
        | inl less ↦ absurd (filled-apart d c less within (right.width above) (left.width above) (left.hashes above) (sym filled))
        | inr least ↦ same_front c d (filling c) (filling d) (omega arith) filled
      ]
    ]

pub length-block : (bytes : List ℕ) (i : ℕ) → length (block bytes i) ≤ 8192
length-block bytes i = omega (arith, length-take 8192 (drop (8192 * i) bytes))

-- a hash in a block is one of the level
hash-block : (bytes : List ℕ) (i j : ℕ) → j < 256 → take 32 (drop (32 * j) (block bytes i)) ≡ take 32 (drop (32 * (256 * i + j)) bytes)
hash-block bytes i j within =
    let m : ℕ = 8192 - 32 * j in
    let total : 8192 ≡ 32 * j + m = omega arith in
    let rest : List ℕ = drop (8192 * i) bytes in
    let cut : drop (32 * j) (take 8192 rest) ≡ take m (drop (32 * j) rest) = ap (λ n. drop (32 * j) (take n rest)) total ∙ drop-take (32 * j) m rest in
    let place : 8192 * i + 32 * j ≡ 32 * (256 * i + j) = omega arith in
    ap (λ (l : List ℕ). take 32 l) cut
    ∙ take-take 32 m (drop (32 * j) rest) (omega arith)
    ∙ ap (λ (l : List ℕ). take 32 l) (drop-drop (32 * j) (8192 * i) bytes)
    ∙ ap (λ n. take 32 (drop n bytes)) place

-- so the blocks of a level are as the level is
pub IsLevel-block : (level : ℕ) (bytes : List ℕ) (i : ℕ) → IsLevel level bytes → IsLevel level (block bytes i)
IsLevel-block level bytes i held =
    let size : length (block bytes i) ≡ length (take 8192 (drop (8192 * i) bytes)) = refl in
    let part = length-take 8192 (drop (8192 * i) bytes) in
    let rest = length-drop (8192 * i) bytes in
    record {
      width = λ above. let width = held.width above in omega arith;
      hashes = λ above j less zeros.
          held.hashes above (256 * i + j) (omega arith) (sym (hash-block bytes i j (omega arith)) ∙ zeros);
    }

-- an input as it is put together
pub block_input-made : (level i n told len : ℕ) (contents offset size none first second third last : List ℕ)
    → offset ≡ to_le_bytes w64 (bit_or (8192 * i) level) → told ≡ told_size level contents → size ≡ to_le_bytes w32 told
    → none ≡ [] → first ≡ none ++ offset → second ≡ first ++ size → third ≡ second ++ contents
    → len ≡ length third → n ≡ len + (8192 - length contents) % 8192 → last ≡ take n third ++ replicate (n - len) 0
    → last ≡ block_input level i contents
unfolding block_input head
block_input-made level i n told len contents offset size none first second third last is_offset is_told is_size is_none is_first is_second is_third is_len total is_last =
    let left : n - len ≡ (8192 - length contents) % 8192 = omega arith in
    let all : take n third ≡ third = take_all n third (omega arith) in
    rw (is_last, all, left, is_third, is_second, is_first, is_none, is_offset, is_size, is_told) refl
