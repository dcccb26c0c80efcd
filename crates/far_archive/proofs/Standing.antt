-- A text that holds items has no fault, and its directory names their files.
use Rattle.std.proofs.Common.{◌≡◌, ℕ, ◌+◌, ◌*◌, ◌^◌, ◌<◌, ◌≤◌, List, [], ◌∷◌, ◌++◌, length, map, take, drop, All, None, refl, sym, ap, subst, ◌∙◌, add-zero, arith}
use Rattle.std.specs.List.{flat_map, range_with_len}
use Rattle.std.specs.declared.cmp.Ordering.TheVariants.{Less}
use Rattle.std.specs.Ordering.{nat_cmp}
use Rattle.std.specs.Cmp.Lexicographic.{slice_cmp}
use Rattle.std.proofs.lemmas.List.{take_all, take_at, drop_at, length-append}
use Rattle.std.proofs.lemmas.List.Elements.{All-head, All-tail}
use Rattle.pkg_names.specs.FileText.{IsFile}
use Rattle.far_archive.specs.declared.fields.Entry.{Entry}
use Rattle.far_archive.specs.Fields.{part, places, entry_of, name_of, data_of, end_of, names_end}
use Rattle.far_archive.specs.Faults.{name_before, floor, entry_fault, entries_fault}
use Rattle.far_archive.specs.Archive.{Item, IsItem, Ascend, item_bytes, file_of}
use Rattle.far_archive.proofs.Facts.{HasName, HasRange}
use Rattle.far_archive.proofs.Decided.{FilesAreTested, has_name-Decides, has_range-Decides}
use Rattle.far_archive.proofs.Parts.{part-part, length-part}
use Rattle.far_archive.proofs.Items.{entry_for, entry_reads}
use Rattle.far_archive.proofs.Loop.{after_one}

-- the front of a joined part, and the rest
front_of : (text : List ℕ) (at n : ℕ) (a b : List ℕ) → part text at (32 + n) ≡ a ++ b → length a ≡ 32 → part text at 32 ≡ a
front_of text at n a b is len =
    ap (λ (k : ℕ). part text k 32) (sym (add-zero at)) ∙ sym (part-part text at (32 + n) 0 32 (omega arith)) ∙ ap (λ (l : List ℕ). take 32 l) is ∙ take_at a b 32 len

rest_of : (text : List ℕ) (at n : ℕ) (a b : List ℕ) → part text at (32 + n) ≡ a ++ b → length a ≡ 32 → length b ≡ n → part text (at + 32) n ≡ b
rest_of text at n a b is len size =
    sym (part-part text at (32 + n) 32 n (omega arith)) ∙ ap (λ (l : List ℕ). take n (drop 32 l)) is ∙ ap (λ (l : List ℕ). take n l) (drop_at a b 32 len) ∙ take_all n b (omega arith)

pub length-directory : (items : List Item) → length (flat_map item_bytes items) ≡ 32 * length items
length-directory [] = refl
length-directory (i ∷ items) = omega (arith, length-append (item_bytes i) (flat_map item_bytes items), length-directory items)

no_fault : FilesAreTested → (text : List ℕ) (k : ℕ) → HasName text k → HasRange text k → entry_fault text k ≡ None
unfolding entry_fault
no_fault tested text k name range = rw ((has_name-Decides tested text k).1 name, (has_range-Decides text k).1 range) refl

module _ (tested : FilesAreTested) (text : List ℕ) (short : length text < 2 ^ 64) (inside : names_end text ≤ length text) where
  abbrev names : List ℕ
  names = part text (places text).names_at (places text).names_len

  -- what entry k says of this item
  record Says (k : ℕ) (i : Item) : Type 0 where
    entry : entry_of text k ≡ entry_for i
    name : name_of text k ≡ i.name
    bytes : data_of text k ≡ i.bytes

  said : (k : ℕ) (i : Item) → IsItem text names i → part text ((places text).dir_at + 32 * k) 32 ≡ item_bytes i → Says k i
  said k i is there =
      let e = entry_reads text ((places text).dir_at + 32 * k) i there is.name_at (omega (arith, is.path.not_long)) (omega (arith, is.bytes.inside)) (omega (arith, is.bytes.inside)) in
      let within : i.name_at + length i.name ≤ (places text).names_len = omega (arith, is.name.inside, length-part text (places text).names_at (places text).names_len inside) in
      record {
        entry = e;
        name =
            ap (λ (x : Entry). part text ((places text).names_at + x.name_at) x.name_len) e
            ∙ sym (part-part text (places text).names_at (places text).names_len i.name_at (length i.name) within) ∙ is.name.same;
        bytes = ap (λ (x : Entry). part text x.data_at x.data_len) e ∙ is.bytes.same;
      }

  good_name : (k : ℕ) (i : Item) (name : List ℕ) → IsItem text names i → Says k i → name_before text k ≡ name → slice_cmp nat_cmp name i.name ≡ Less → HasName text k
  good_name k i name is says before less =
      record {
        inside = rw says.entry (omega (arith, is.name.inside, length-part text (places text).names_at (places text).names_len inside));
        zero = rw says.entry refl;
        path = subst IsFile (sym says.name) is.path;
        greater = rw (before, says.name) less;
      }

  good_range : (k : ℕ) (i : Item) (end : ℕ) → IsItem text names i → Says k i → floor text k ≡ end → end ≤ i.data_at → names_end text ≤ end → HasRange text k
  good_range k i end is says start le behind =
      record {
        zero = rw says.entry refl;
        page = rw says.entry is.page;
        behind_names = rw says.entry (omega arith);
        behind = rw (start, says.entry) le;
        inside = rw says.entry is.bytes.inside;
      }

  -- the entries from k on are these items
  pub record Reading (k : ℕ) (items : List Item) : Type 0 where
    pub none : entries_fault text k (length items) ≡ None
    pub same : map (λ j. (name_of text j, data_of text j)) (range_with_len k (length items)) ≡ map file_of items

  pub reading : (items : List Item) (k : ℕ) (name : List ℕ) (end : ℕ) → part text ((places text).dir_at + 32 * k) (32 * length items) ≡ flat_map item_bytes items
      → All (IsItem text names) items → name_before text k ≡ name → floor text k ≡ end → names_end text ≤ end → Ascend name end items → Reading k items
  unfolding entries_fault
  reading [] k name end there each before start behind ascend = record { none = refl; same = refl }
  reading (i ∷ items) k name end there each before start behind ascend =
      let at = (places text).dir_at + 32 * k in
      let is = All-head (IsItem text names) i items each in
      let more : 32 * length (i ∷ items) ≡ 32 + 32 * length items = omega arith in
      let whole : part text at (32 + 32 * length items) ≡ item_bytes i ++ flat_map item_bytes items = ap (λ (n : ℕ). part text at n) (sym more) ∙ there in
      let says = said k i is (front_of text at (32 * length items) (item_bytes i) (flat_map item_bytes items) whole refl) in
      let next : (places text).dir_at + 32 * (k + 1) ≡ at + 32 = omega arith in
      let rest : part text ((places text).dir_at + 32 * (k + 1)) (32 * length items) ≡ flat_map item_bytes items =
      ap (λ (n : ℕ). part text n (32 * length items)) next ∙ rest_of text at (32 * length items) (item_bytes i) (flat_map item_bytes items) whole refl (length-directory items) in
      let none = no_fault tested text k (good_name k i name is says before ascend.0) (good_range k i end is says start ascend.1 behind) in
      let after = after_one text k in
      let ends : end_of text k ≡ i.data_at + length i.bytes = ap (λ (x : Entry). x.data_at + x.data_len) says.entry in
      let others = reading items (k + 1) i.name (i.data_at + length i.bytes) rest (All-tail (IsItem text names) i items each) (after.0 ∙ says.name) (after.1 ∙ ends) (omega arith) ascend.2 in
      record {
        none = rw none others.none;
        same = rw (says.name, says.bytes, others.same) refl;
      }
