-- The bytes of a row, and the row that is read from them.
use Rattle.std.proofs.Common.{◌≡◌, ℕ, ◌+◌, ◌^◌, ◌<◌, ◌==◌, not, Bool, true, false, List, [], ◌∷◌, ◌++◌, length, take, drop, get_or, replicate, sym, refl, ◌∙◌, ap, arith, w32, take_at, drop_at, append_assoc, length-append}
use Rattle.std.specs.Int.{w64, to_le_bytes, from_le_bytes}
use Rattle.std.proofs.lemmas.List.{get_or_at, drop_all, append-nil}
use borrow.Rule.Slice.PartMut.{put_mid}
use Rattle.std.proofs.lemmas.Nat.{from_le_bytes-to_le_bytes_4, from_le_bytes-to_le_bytes_8}
use Rattle.node_table.specs.declared.rows.Row.{Row}
use Rattle.node_table.specs.Spelling.{row_in}
use Rattle.node_table.specs.Steps.{flag_byte, row_text}

-- the piece between two others
piece : (a b c : List ℕ) (n m : ℕ) → length a ≡ n → length b ≡ m → take m (drop n (a ++ b ++ c)) ≡ b
piece a b c n m la lb =
    ap (λ (l : List ℕ). take m (drop n l)) (append_assoc a b c) ∙ ap (take m) (drop_at a (b ++ c) n la) ∙ take_at b c m lb

flag_read : (used : Bool) → not (flag_byte used == 0) ≡ used
flag_read true = refl
flag_read false = refl

-- What is written of a row is read as that row.
pub row_back : (row : Row) (bytes : List ℕ) → bytes ≡ row_text row → length row.root.0 ≡ 32 → row.len < 2 ^ 64 → row.first < 2 ^ 32 → row_in bytes ≡ row
row_back row bytes is long len_fits first_fits =
    let a = row.root.0 in
    let b : List ℕ = to_le_bytes w64 row.len in
    let c : List ℕ = to_le_bytes w32 row.first in
    let u : List ℕ = flag_byte row.used ∷ [] in
    let z : List ℕ = replicate 19 0 in
    let ab : length (a ++ b) ≡ 40 = length-append a b ∙ ap (λ (n : ℕ). n + 8) long in
    let abc : length (a ++ b ++ c) ≡ 44 = length-append (a ++ b) c ∙ ap (λ (n : ℕ). n + 4) ab in
    let numbers : b ++ c ++ u ++ z ≡ b ++ (c ++ (u ++ z)) = append_assoc (b ++ c) u z ∙ append_assoc b c (u ++ z) in
    let first_two : bytes ≡ a ++ (b ++ (c ++ (u ++ z))) = is ∙ ap (λ (l : List ℕ). a ++ l) numbers in
    let three : bytes ≡ (a ++ b) ++ (c ++ (u ++ z)) = first_two ∙ sym (append_assoc a b (c ++ (u ++ z))) in
    let four : bytes ≡ (a ++ b ++ c) ++ (u ++ z) = three ∙ sym (append_assoc (a ++ b) c (u ++ z)) in
    let root : take 32 bytes ≡ a = ap (take 32) first_two ∙ take_at a (b ++ (c ++ (u ++ z))) 32 long in
    let len : take 8 (drop 32 bytes) ≡ b = ap (λ (l : List ℕ). take 8 (drop 32 l)) three ∙ piece a b (c ++ (u ++ z)) 32 8 long refl in
    let first : take 4 (drop 40 bytes) ≡ c = ap (λ (l : List ℕ). take 4 (drop 40 l)) four ∙ piece (a ++ b) c (u ++ z) 40 4 ab refl in
    let used : get_or bytes 44 0 ≡ flag_byte row.used = ap (λ (l : List ℕ). get_or l 44 0) four ∙ get_or_at (a ++ b ++ c) (flag_byte row.used) z 0 44 abc in
    let r1 = ap (λ (l : List ℕ). let r : Row = record { root = record { 0 = l }; len = from_le_bytes w64 (take 8 (drop 32 bytes)); first = from_le_bytes w32 (take 4 (drop 40 bytes)); used = not (get_or bytes 44 0 == 0) } in r) root in
    let r2 = ap (λ (n : ℕ). let r : Row = record { root = record { 0 = a }; len = n; first = from_le_bytes w32 (take 4 (drop 40 bytes)); used = not (get_or bytes 44 0 == 0) } in r) (ap (from_le_bytes w64) len ∙ from_le_bytes-to_le_bytes_8 row.len len_fits) in
    let r3 = ap (λ (n : ℕ). let r : Row = record { root = record { 0 = a }; len = row.len; first = n; used = not (get_or bytes 44 0 == 0) } in r) (ap (from_le_bytes w32) first ∙ from_le_bytes-to_le_bytes_4 row.first first_fits) in
    let r4 = ap (λ (v : Bool). let r : Row = record { root = record { 0 = a }; len = row.len; first = row.first; used = v } in r) (ap (λ (n : ℕ). not (n == 0)) used ∙ flag_read row.used) in
    r1 ∙ r2 ∙ r3 ∙ r4

-- the second half of 64 bytes is written
pub halves : (a z old ys : List ℕ) → old ≡ a → length a ≡ 32 → length z ≡ 32 → put_mid 32 32 (old ++ z) ys ≡ a ++ ys
halves a z old ys is la lz =
    ap (λ (l : List ℕ). put_mid 32 32 (l ++ z) ys) is
    ∙ ap (λ (l : List ℕ). l ++ (ys ++ drop 32 (drop 32 (a ++ z)))) (take_at a z 32 la)
    ∙ ap (λ (l : List ℕ). a ++ (ys ++ drop 32 l)) (drop_at a z 32 la)
    ∙ ap (λ (l : List ℕ). a ++ (ys ++ l)) (drop_all 32 z (omega (arith, lz)))
    ∙ ap (λ (l : List ℕ). a ++ l) (append-nil ys)
