-- An entry that is written as an item is read as that item, and the other way round.
use Rattle.std.proofs.Common.{◌≡◌, ℕ, ◌+◌, ◌^◌, ◌<◌, ◌≤◌, List, ◌++◌, length, refl, sym, ap, ◌∙◌, add-zero, arith}
use Rattle.std.specs.Int.{w16, w32, w64, to_le_bytes}
use Rattle.far_archive.specs.declared.fields.Places.{Places}
use Rattle.far_archive.specs.declared.fields.Entry.{Entry}
use Rattle.pkg_names.specs.Numbers.{number_at}
use Rattle.far_archive.specs.Fields.{AreBytes, part, places, entry}
use Rattle.std.specs.Prelude.{codes}
use Rattle.far_archive.specs.Faults.{magic}
use Rattle.far_archive.specs.Archive.{Item, item_bytes, index_bytes}
use Rattle.far_archive.proofs.Parts.{part-join, number_back, number_again, wide16, wide32, wide64}

-- what an entry of this item says
abbrev pub entry_for : Item → Entry
entry_for i = record { name_at = i.name_at; name_len = length i.name; name_zero = 0; data_at = i.data_at; data_len = length i.bytes; end_zero = 0 }

pub entry_reads : (text : List ℕ) (at : ℕ) (i : Item) → part text at 32 ≡ item_bytes i → i.name_at < 2 ^ 32 → length i.name < 2 ^ 16 → i.data_at < 2 ^ 64 → length i.bytes < 2 ^ 64 → entry text at ≡ entry_for i
unfolding entry
entry_reads text at i is a b c d =
    let e0 : number_at w32 text (at + 0) ≡ i.name_at = number_again w32 (2 ^ 32) wide32 text at 32 0 i.name_at (item_bytes i) a (omega arith) is refl in
    let e1 : number_at w32 text at ≡ i.name_at = ap (number_at w32 text) (sym (add-zero at)) ∙ e0 in
    let e2 : number_at w16 text (at + 4) ≡ length i.name = number_again w16 (2 ^ 16) wide16 text at 32 4 (length i.name) (item_bytes i) b (omega arith) is refl in
    let e3 : number_at w16 text (at + 6) ≡ 0 = number_again w16 (2 ^ 16) wide16 text at 32 6 0 (item_bytes i) (omega arith) (omega arith) is refl in
    let e4 : number_at w64 text (at + 8) ≡ i.data_at = number_again w64 (2 ^ 64) wide64 text at 32 8 i.data_at (item_bytes i) c (omega arith) is refl in
    let e5 : number_at w64 text (at + 16) ≡ length i.bytes = number_again w64 (2 ^ 64) wide64 text at 32 16 (length i.bytes) (item_bytes i) d (omega arith) is refl in
    let e6 : number_at w64 text (at + 24) ≡ 0 = number_again w64 (2 ^ 64) wide64 text at 32 24 0 (item_bytes i) (omega arith) (omega arith) is refl in
    rw (e1, e2, e3, e4, e5, e6) refl

pub places_read : (text : List ℕ) (p : Places) → part text 0 64 ≡ index_bytes p → p.dir_at < 2 ^ 64 → p.dir_len < 2 ^ 64 → p.names_at < 2 ^ 64 → p.names_len < 2 ^ 64 → places text ≡ p
unfolding places
places_read text p is a b c d =
    let e1 : number_at w64 text 24 ≡ p.dir_at = number_again w64 (2 ^ 64) wide64 text 0 64 24 p.dir_at (index_bytes p) a (omega arith) is refl in
    let e2 : number_at w64 text 32 ≡ p.dir_len = number_again w64 (2 ^ 64) wide64 text 0 64 32 p.dir_len (index_bytes p) b (omega arith) is refl in
    let e3 : number_at w64 text 48 ≡ p.names_at = number_again w64 (2 ^ 64) wide64 text 0 64 48 p.names_at (index_bytes p) c (omega arith) is refl in
    let e4 : number_at w64 text 56 ≡ p.names_len = number_again w64 (2 ^ 64) wide64 text 0 64 56 p.names_len (index_bytes p) d (omega arith) is refl in
    rw (e1, e2, e3, e4) refl

join6 : (text : List ℕ) (at : ℕ) → part text at 4 ++ part text (at + 4) 2 ++ part text (at + 6) 2 ++ part text (at + 8) 8 ++ part text (at + 16) 8 ++ part text (at + 24) 8 ≡ part text at 32
join6 text at = rw (part-join text at 4 2, part-join text at 6 2, part-join text at 8 8, part-join text at 16 8, part-join text at 24 8) refl

pub entry_written : (text : List ℕ) (at : ℕ) → AreBytes text → at + 32 ≤ length text → (entry text at).name_zero ≡ 0 → (entry text at).end_zero ≡ 0
    → part text at 32
    ≡ to_le_bytes w32 (entry text at).name_at ++ to_le_bytes w16 (entry text at).name_len ++ to_le_bytes w16 0 ++ to_le_bytes w64 (entry text at).data_at
    ++ to_le_bytes w64 (entry text at).data_len ++ to_le_bytes w64 0
unfolding entry
entry_written text at fits le none end =
    let e1 : to_le_bytes w32 (number_at w32 text at) ≡ part text at 4 = number_back w32 (2 ^ 32) wide32 text at fits (omega arith) in
    let e2 : to_le_bytes w16 (number_at w16 text (at + 4)) ≡ part text (at + 4) 2 = number_back w16 (2 ^ 16) wide16 text (at + 4) fits (omega arith) in
    let e3 : to_le_bytes w16 0 ≡ part text (at + 6) 2 = ap (to_le_bytes w16) (sym none) ∙ number_back w16 (2 ^ 16) wide16 text (at + 6) fits (omega arith) in
    let e4 : to_le_bytes w64 (number_at w64 text (at + 8)) ≡ part text (at + 8) 8 = number_back w64 (2 ^ 64) wide64 text (at + 8) fits (omega arith) in
    let e5 : to_le_bytes w64 (number_at w64 text (at + 16)) ≡ part text (at + 16) 8 = number_back w64 (2 ^ 64) wide64 text (at + 16) fits (omega arith) in
    let e6 : to_le_bytes w64 0 ≡ part text (at + 24) 8 = ap (to_le_bytes w64) (sym end) ∙ number_back w64 (2 ^ 64) wide64 text (at + 24) fits (omega arith) in
    sym (joined e1 e2 e3 e4 e5 e6 ∙ join6 text at)
  where
    joined : {a1 b1 a2 b2 a3 b3 a4 b4 a5 b5 a6 b6 : List ℕ} → a1 ≡ b1 → a2 ≡ b2 → a3 ≡ b3 → a4 ≡ b4 → a5 ≡ b5 → a6 ≡ b6 → a1 ++ a2 ++ a3 ++ a4 ++ a5 ++ a6 ≡ b1 ++ b2 ++ b3 ++ b4 ++ b5 ++ b6
    joined p1 p2 p3 p4 p5 p6 = cc

join8 : (text : List ℕ) → part text 0 8 ++ part text 8 8 ++ part text 16 8 ++ part text 24 8 ++ part text 32 8 ++ part text 40 8 ++ part text 48 8 ++ part text 56 8 ≡ part text 0 64
join8 text = rw (part-join text 0 8 8, part-join text 0 16 8, part-join text 0 24 8, part-join text 0 32 8, part-join text 0 40 8, part-join text 0 48 8, part-join text 0 56 8) refl

pub index_written : (text : List ℕ) → AreBytes text → 64 ≤ length text → part text 0 8 ≡ magic → number_at w64 text 8 ≡ 48 → part text 16 8 ≡ codes "DIR-----" → part text 40 8 ≡ codes "DIRNAMES"
    → part text 0 64 ≡ index_bytes (places text)
unfolding places
index_written text fits le e1 two e3 e6 =
    let e2 : to_le_bytes w64 48 ≡ part text 8 8 = ap (to_le_bytes w64) (sym two) ∙ number_back w64 (2 ^ 64) wide64 text 8 fits (omega arith) in
    let e4 : to_le_bytes w64 (number_at w64 text 24) ≡ part text 24 8 = number_back w64 (2 ^ 64) wide64 text 24 fits (omega arith) in
    let e5 : to_le_bytes w64 (number_at w64 text 32) ≡ part text 32 8 = number_back w64 (2 ^ 64) wide64 text 32 fits (omega arith) in
    let e7 : to_le_bytes w64 (number_at w64 text 48) ≡ part text 48 8 = number_back w64 (2 ^ 64) wide64 text 48 fits (omega arith) in
    let e8 : to_le_bytes w64 (number_at w64 text 56) ≡ part text 56 8 = number_back w64 (2 ^ 64) wide64 text 56 fits (omega arith) in
    sym (joined (sym e1) e2 (sym e3) e4 e5 (sym e6) e7 e8 ∙ join8 text)
  where
    joined : {a1 b1 a2 b2 a3 b3 a4 b4 a5 b5 a6 b6 a7 b7 a8 b8 : List ℕ} → a1 ≡ b1 → a2 ≡ b2 → a3 ≡ b3 → a4 ≡ b4 → a5 ≡ b5 → a6 ≡ b6 → a7 ≡ b7 → a8 ≡ b8
        → a1 ++ a2 ++ a3 ++ a4 ++ a5 ++ a6 ++ a7 ++ a8 ≡ b1 ++ b2 ++ b3 ++ b4 ++ b5 ++ b6 ++ b7 ++ b8
    joined p1 p2 p3 p4 p5 p6 p7 p8 = cc
