-- Which bytes are read as a record: those that were written are, and one changed byte is seen.
use Rattle.std.proofs.Common.{ℕ, ◌≡◌, ◌≢◌, ◌+◌, ◌-◌, ◌^◌, ◌<◌, ◌≤◌, ◌==◌, Bool, true, false, List, length, take, drop, slice_index, slice_set, bytes_eq, get_or, not, All, IsTrue, subst, Some, None, sym, refl, ap, ◌∙◌, inl, inr, arith}
use Rattle.std.specs.Int.{w32, to_be_bytes, from_be_bytes}
use Rattle.std.proofs.lemmas.Nat.{from_be_bytes-to_be_bytes_4}
use Rattle.std.proofs.lemmas.List.{get_or-take, get_or-drop, get_or-set_same, take-set-le, drop-set-lt, drop-set-add, length-take, length-drop}
use Rattle.std.proofs.lemmas.List.Elements.{All-take, All-set}
use Rattle.std.proofs.Math.Seq.{take-set-lt}
use Rattle.std.proofs.lemmas.Bool.{and_parts, and_from, cases_lt, false_from_ne_true, cond-false, cond-true, eq-eqb, eqb-true}
use Rattle.std.proofs.lemmas.Slice.Eq.{bytes_eq-Decides, slice_eq-Decides}
use Rattle.std.proofs.lemmas.Bool.Decides.{Decides-eqb}
use Rattle.abr_record.specs.declared.Record.{Record}
use Rattle.abr_record.specs.Crc.{crc32}
use Rattle.abr_record.specs.Bytes.{IsRecordBytes, is_record_bytes, record_at, decoded, magic_bytes, flag_byte, record_bytes}
use Rattle.abr_record.proofs.CrcLemmas.{crc_below, crc_seen}

-- ---- the test

-- a comparison of two lists says the same of two that they are equal to
pub compared : (r : Bool) (ws xs ys zs : List ℕ) → r ≡ bytes_eq ws ys → ws ≡ xs → ys ≡ zs → (IsTrue r → xs ≡ zs) × (xs ≡ zs → IsTrue r)
compared r ws xs ys zs e left right =
    subst (λ (w : List ℕ). (IsTrue r → w ≡ zs) × (w ≡ zs → IsTrue r)) left
    (subst (λ (w : List ℕ). (IsTrue r → ws ≡ w) × (ws ≡ w → IsTrue r)) right (slice_eq-Decides Decides-eqb ws ys r e))

pub IsRecordBytes-from_test : (bytes : List ℕ) → is_record_bytes bytes ≡ true → IsRecordBytes bytes
IsRecordBytes-from_test bytes passes =
    let split = and_parts _ _ passes in
    let front = and_parts _ _ split.0 in
    record {
      magic = (bytes_eq-Decides (take 4 bytes) magic_bytes).0 front.0;
      major = eqb-true _ _ front.1;
      crc = (bytes_eq-Decides (drop 28 bytes) (to_be_bytes w32 (crc32 (take 28 bytes)))).0 split.1;
    }

pub is_record_bytes-from : (bytes : List ℕ) → IsRecordBytes bytes → is_record_bytes bytes ≡ true
is_record_bytes-from bytes is =
    and_from _ _
    (and_from _ _ ((bytes_eq-Decides (take 4 bytes) magic_bytes).1 is.magic) (eq-eqb _ _ is.major))
    ((bytes_eq-Decides (drop 28 bytes) (to_be_bytes w32 (crc32 (take 28 bytes)))).1 is.crc)

pub decoded-record : (bytes : List ℕ) → IsRecordBytes bytes → decoded bytes ≡ Some (record_at bytes)
decoded-record bytes is = cond-true _ _ _ (is_record_bytes-from bytes is)

pub decoded-other : (bytes : List ℕ) → (IsRecordBytes bytes → ⊥) → decoded bytes ≡ None
decoded-other bytes not = cond-false _ _ _ (false_from_ne_true _ (λ passes. not (IsRecordBytes-from_test bytes passes)))

-- ---- one changed byte

bytes_same : (m n : ℕ) → m < 2 ^ 32 → n < 2 ^ 32 → to_be_bytes w32 m ≡ to_be_bytes w32 n → m ≡ n
bytes_same m n fits_m fits_n e =
    sym (from_be_bytes-to_be_bytes_4 m fits_m) ∙ ap (from_be_bytes w32) e ∙ from_be_bytes-to_be_bytes_4 n fits_n

-- the CRCs of two lists of bytes are one where their four bytes are
crc_same : (xs ys : List ℕ) → All (λ b. b < 256) xs → All (λ b. b < 256) ys
    → to_be_bytes w32 (crc32 xs) ≡ to_be_bytes w32 (crc32 ys) → crc32 xs ≡ crc32 ys
crc_same xs ys all_xs all_ys e = bytes_same (crc32 xs) (crc32 ys) (crc_below xs all_xs) (crc_below ys all_ys) e

module _ (bytes : List ℕ) (i byte : ℕ) (all : All (λ b. b < 256) bytes) (small : byte < 256) (size : length bytes ≡ 32)
    (within : i < 32) (other : byte ≢ slice_index bytes i) (is : IsRecordBytes bytes) where
  front_all : All (λ b. b < 256) (take 28 bytes)
  front_all = All-take (λ b. b < 256) 28 bytes all

  in_front : i < 28 → IsRecordBytes (slice_set bytes i byte) → ⊥
  in_front low changed =
      let back : drop 28 (slice_set bytes i byte) ≡ drop 28 bytes = drop-set-lt 28 bytes i byte low in
      let front : take 28 (slice_set bytes i byte) ≡ slice_set (take 28 bytes) i byte = take-set-lt 28 bytes i byte low in
      let crcs : to_be_bytes w32 (crc32 (slice_set (take 28 bytes) i byte)) ≡ to_be_bytes w32 (crc32 (take 28 bytes)) =
      ap (λ xs. to_be_bytes w32 (crc32 xs)) (sym front) ∙ sym changed.crc ∙ back ∙ is.crc in
      other (crc_seen (take 28 bytes) i byte front_all small (omega (arith, length-take 28 bytes))
      (crc_same _ _ (All-set (λ b. b < 256) (take 28 bytes) i byte small front_all) front_all crcs)
      ∙ get_or-take 28 bytes i 0 low)

  behind : 28 ≤ i → IsRecordBytes (slice_set bytes i byte) → ⊥
  behind high changed =
      let at : i ≡ 28 + (i - 28) = omega arith in
      let back : drop 28 (slice_set bytes i byte) ≡ slice_set (drop 28 bytes) (i - 28) byte =
      ap (λ k. drop 28 (slice_set bytes k byte)) at ∙ drop-set-add 28 bytes (i - 28) byte in
      let front : take 28 (slice_set bytes i byte) ≡ take 28 bytes = take-set-le 28 bytes i byte high in
      let same : slice_set (drop 28 bytes) (i - 28) byte ≡ drop 28 bytes =
      sym back ∙ changed.crc ∙ ap (λ xs. to_be_bytes w32 (crc32 xs)) front ∙ sym is.crc in
      other (sym (get_or-set_same (drop 28 bytes) (i - 28) byte 0 (omega (arith, length-drop 28 bytes)))
      ∙ ap (λ xs. get_or xs (i - 28) 0) same ∙ get_or-drop 28 bytes (i - 28) 0 ∙ ap (λ k. get_or bytes k 0) (sym at))

  pub changed_record : decoded (slice_set bytes i byte) ≡ None
  changed_record = decoded-other (slice_set bytes i byte) (λ changed. elim (cases_lt i 28) [
    | inl low ↦ in_front low changed
    | inr high ↦ behind high changed
  ])

-- ---- what was written is read

is_record_written : (r : Record) → IsRecordBytes (record_bytes r)
is_record_written r = record { magic = refl; major = refl; crc = refl }

flag_read : (flag : Bool) → not (flag_byte flag == 0) ≡ flag
flag_read true = refl
flag_read false = refl

record_read : (r : Record) → record_at (record_bytes r) ≡ r
record_read r = λ i. record {
  a = record r.a { successful = flag_read r.a.successful i };
  b = record r.b { successful = flag_read r.b.successful i };
  one_shot = r.one_shot;
}

pub decoded-written : (r : Record) → decoded (record_bytes r) ≡ Some r
decoded-written r = decoded-record (record_bytes r) (is_record_written r) ∙ ap Some (record_read r)
