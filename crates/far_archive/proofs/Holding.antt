-- A text without a fault holds the items that its directory names.
use Rattle.std.proofs.Common.{◌≡◌, ℕ, zero, suc, ◌+◌, ◌*◌, ◌^◌, ◌<◌, ◌≤◌, Bool, true, false, cond, List, ◌∷◌, ◌++◌, length, map, All, Option, Some, None, refl, sym, ap, subst, ◌∙◌, arith}
use Rattle.std.specs.List.{flat_map, range_with_len}
use Rattle.std.specs.Int.{w16, w32, w64, to_le_bytes}
use Rattle.std.specs.declared.cmp.Ordering.TheVariants.{Less}
use Rattle.std.specs.Ordering.{nat_cmp}
use Rattle.std.specs.Cmp.Lexicographic.{slice_cmp}
use Rattle.std.proofs.lemmas.Bool.{and_parts, leb-true}
use Rattle.std.proofs.lemmas.List.Elements.{All-nil, All-cons}
use Rattle.far_archive.specs.declared.fault.FarFault.{FarFault}
use Rattle.far_archive.specs.declared.fault.FarFault.TheVariants.{Name, Range}
use Rattle.far_archive.specs.Fields.{AreBytes, part, places, entry, entry_of, name_of, data_of, end_of, names_end}
use Rattle.far_archive.specs.Faults.{has_name, has_range, name_before, floor, or_else, entry_fault, entries_fault}
use Rattle.far_archive.specs.Archive.{Item, IsItem, Ascend, item_bytes, file_of}
use Rattle.far_archive.proofs.Facts.{HasName, HasRange}
use Rattle.far_archive.proofs.Decided.{FilesAreTested, Decides-is_lt, has_name-Decides, has_range-Decides}
use Rattle.far_archive.proofs.Parts.{part-part, part-join, length-part, number_below, wide32}
use Rattle.far_archive.proofs.Items.{entry_written}
use Rattle.far_archive.proofs.Loop.{after_one}

pub neither : (a b : Option FarFault) → or_else a b ≡ None → (a ≡ None) × (b ≡ None)
neither None b e = (refl, e)
neither (Some f) b e = absurd cc

both : (a b : Bool) (n r : FarFault) → cond a (cond b None (Some r)) (Some n) ≡ None → (a ≡ true) × (b ≡ true)
both true true n r e = (refl, refl)
both true false n r e = absurd cc
both false b n r e = absurd cc

pub faultless : FilesAreTested → (text : List ℕ) (k : ℕ) → entry_fault text k ≡ None → HasName text k × HasRange text k
unfolding entry_fault
faultless tested text k e =
    let h = both (has_name text k) (has_range text k) (Name k) (Range k) e in
    ((has_name-Decides tested text k).0 h.0, (has_range-Decides text k).0 h.1)

-- the name of entry k lies within the names and is greater than the one before
pub record HasPlace (text : List ℕ) (k : ℕ) : Type 0 where
  pub inside : (entry_of text k).name_at + (entry_of text k).name_len ≤ (places text).names_len
  pub greater : slice_cmp nat_cmp (name_before text k) (name_of text k) ≡ Less

pub placed : (text : List ℕ) (k : ℕ) → entry_fault text k ≡ None → HasPlace text k × HasRange text k
unfolding entry_fault has_name
placed text k e =
    let h = both (has_name text k) (has_range text k) (Name k) (Range k) e in
    let tests = and_parts _ _ h.0 in
    let front = and_parts _ _ (and_parts _ _ tests.0).0 in
    (record { inside = leb-true _ _ front.0; greater = (Decides-is_lt _).0 tests.1 }, (has_range-Decides text k).0 h.1)

-- the item of entry k
abbrev pub item_of : List ℕ → ℕ → Item
item_of text k = record { name_at = (entry_of text k).name_at; name = name_of text k; data_at = (entry_of text k).data_at; bytes = data_of text k }

-- those of n entries from k on
abbrev pub items_from : List ℕ → ℕ → ℕ → List Item
items_from text k n = map (item_of text) (range_with_len k n)

name_at_fits : (text : List ℕ) (at : ℕ) → AreBytes text → (entry text at).name_at < 2 ^ 32
unfolding entry
name_at_fits text at fits = number_below w32 (2 ^ 32) wide32 text at fits

module _ (tested : FilesAreTested) (text : List ℕ) (fits : AreBytes text) (inside : names_end text ≤ length text) where
  abbrev names : List ℕ
  names = part text (places text).names_at (places text).names_len

  name_size : (k : ℕ) → HasName text k → length (name_of text k) ≡ (entry_of text k).name_len
  name_size k name = length-part text ((places text).names_at + (entry_of text k).name_at) (entry_of text k).name_len (omega (arith, name.inside))

  data_size : (k : ℕ) → HasRange text k → length (data_of text k) ≡ (entry_of text k).data_len
  data_size k range = length-part text (entry_of text k).data_at (entry_of text k).data_len range.inside

  written : (k : ℕ) → HasName text k → HasRange text k → (places text).dir_at + 32 * k + 32 ≤ length text → part text ((places text).dir_at + 32 * k) 32 ≡ item_bytes (item_of text k)
  written k name range le =
      let e = entry_of text k in
      entry_written text ((places text).dir_at + 32 * k) fits le name.zero range.zero
      ∙ ap (λ (n : ℕ). to_le_bytes w32 e.name_at ++ to_le_bytes w16 n ++ to_le_bytes w16 0 ++ to_le_bytes w64 e.data_at ++ to_le_bytes w64 e.data_len ++ to_le_bytes w64 0) (sym (name_size k name))
      ∙ ap (λ (n : ℕ). to_le_bytes w32 e.name_at ++ to_le_bytes w16 (length (name_of text k)) ++ to_le_bytes w16 0 ++ to_le_bytes w64 e.data_at ++ to_le_bytes w64 n ++ to_le_bytes w64 0) (sym (data_size k range))

  is_item : (k : ℕ) → HasName text k → HasRange text k → IsItem text names (item_of text k)
  is_item k name range =
      let e = entry_of text k in
      let size = name_size k name in
      let len : length names ≡ (places text).names_len = length-part text (places text).names_at (places text).names_len inside in
      record {
        name = record {
          inside = omega (arith, size, len, name.inside);
          same = ap (λ (n : ℕ). part names e.name_at n) size ∙ part-part text (places text).names_at (places text).names_len e.name_at e.name_len name.inside;
        };
        name_at = name_at_fits text ((places text).dir_at + 32 * k) fits;
        path = name.path;
        bytes = record {
          inside = omega (arith, data_size k range, range.inside);
          same = ap (λ (n : ℕ). part text e.data_at n) (data_size k range);
        };
        page = range.page;
      }

  -- n entries from k on are written as their items
  pub record Writing (k n : ℕ) : Type 0 where
    pub directory : part text ((places text).dir_at + 32 * k) (32 * n) ≡ flat_map item_bytes (items_from text k n)
    pub each : All (IsItem text names) (items_from text k n)
    pub ascend : Ascend (name_before text k) (floor text k) (items_from text k n)
    pub same : map (λ j. (name_of text j, data_of text j)) (range_with_len k n) ≡ map file_of (items_from text k n)

  pub writing : (n k : ℕ) → (places text).dir_at + 32 * k + 32 * n ≤ length text → entries_fault text k n ≡ None → Writing k n
  unfolding entries_fault
  writing zero k le none = record { directory = refl; each = All-nil (IsItem text names); ascend = tt; same = refl }
  writing (suc n) k le none =
      let at = (places text).dir_at + 32 * k in
      let here = neither (entry_fault text k) (entries_fault text (k + 1) n) none in
      let good = faultless tested text k here.0 in
      let others = writing n (k + 1) (omega arith) here.1 in
      let first = written k good.0 good.1 (omega arith) in
      let next : (places text).dir_at + 32 * (k + 1) ≡ at + 32 = omega arith in
      let rest : part text (at + 32) (32 * n) ≡ flat_map item_bytes (items_from text (k + 1) n) = ap (λ (m : ℕ). part text m (32 * n)) (sym next) ∙ others.directory in
      let more : 32 * suc n ≡ 32 + 32 * n = omega arith in
      let after = after_one text k in
      record {
        directory = ap (λ (m : ℕ). part text at m) more ∙ sym (part-join text at 32 (32 * n)) ∙ ap (λ (l : List ℕ). l ++ part text (at + 32) (32 * n)) first ∙ ap (λ (l : List ℕ). item_bytes (item_of text k) ++ l) rest;
        each = All-cons (IsItem text names) (item_of text k) (items_from text (k + 1) n) (is_item k good.0 good.1) others.each;
        ascend = (good.0.greater, good.1.behind, ascends k n good.1 after others.ascend);
        same = ap (λ (l : List (List ℕ × List ℕ)). (name_of text k, data_of text k) ∷ l) others.same;
      }
    where
      ascends : (k n : ℕ) → HasRange text k → (name_before text (k + 1) ≡ name_of text k) × (floor text (k + 1) ≡ end_of text k)
          → Ascend (name_before text (k + 1)) (floor text (k + 1)) (items_from text (k + 1) n) → Ascend (name_of text k) ((entry_of text k).data_at + length (data_of text k)) (items_from text (k + 1) n)
      ascends k n range after h =
          let end : floor text (k + 1) ≡ (entry_of text k).data_at + length (data_of text k) = omega (arith, after.1, data_size k range) in
          subst (λ (m : ℕ). Ascend (name_of text k) m (items_from text (k + 1) n)) end (subst (λ (l : List ℕ). Ascend l (floor text (k + 1)) (items_from text (k + 1) n)) after.0 h)
