-- Each text stands for one list of files or has a first fault.
use Rattle.std.proofs.Common.{◌≡◌, ℕ, ◌+◌, ◌*◌, ◌^◌, ◌%◌, ◌<◌, Bool, true, false, cond, List, [], ◌∷◌, length, map, Some, None, refl, sym, ap, subst, ◌∙◌, arith}
use Rattle.std.specs.List.{flat_map, range_with_len, AllByRecursion}
use Rattle.std.specs.List.Sorted.{IsStrictlySortedBy}
use Rattle.std.specs.Int.{w64}
use Rattle.std.specs.declared.cmp.Ordering.TheVariants.{Less}
use Rattle.std.specs.Ordering.{nat_cmp}
use Rattle.std.specs.Cmp.Lexicographic.{slice_cmp}
use Rattle.std.proofs.lemmas.Cmp.{nat_list_cmp_total}
use Rattle.std.proofs.lemmas.List.FromFn.{length-map-range_with_len}
use Rattle.far_archive.specs.declared.fields.Places.{Places}
use Rattle.far_archive.specs.declared.fault.FarFault.{FarFault}
use Rattle.far_archive.specs.declared.fault.FarFault.TheVariants.{Magic, Index, Directory}
use Rattle.far_archive.specs.Fields.{AreBytes, part, places, count, name_of, data_of, names_end, files}
use Rattle.far_archive.specs.Faults.{magic, has_magic, has_index, has_directory, entries_fault, index_fault, first_fault}
use Rattle.far_archive.specs.Archive.{Item, Ascend, Holds, IsArchive, HasAscendingNames, item_bytes, index_bytes, file_of}
use Rattle.far_archive.proofs.Facts.{HasIndex}
use Rattle.far_archive.proofs.Decided.{FilesAreTested, has_magic-Decides, has_index-Decides, has_directory-Decides}
use Rattle.far_archive.proofs.Parts.{part-part, number_again, wide64}
use Rattle.far_archive.proofs.Items.{places_read, index_written}
use Rattle.far_archive.proofs.Standing.{Reading, reading, length-directory}
use Rattle.far_archive.proofs.Holding.{neither, items_from, writing}

three : (a b d : Bool) (x y z : FarFault) → cond a (cond b (cond d None (Some z)) (Some y)) (Some x) ≡ None → (a ≡ true) × (b ≡ true) × (d ≡ true)
three true true true x y z e = (refl, refl, refl)
three true true false x y z e = absurd cc
three true false d x y z e = absurd cc
three false b d x y z e = absurd cc

-- what an index without a fault is
pub record GoodIndex (text : List ℕ) : Type 0 where
  pub magic : part text 0 8 ≡ magic
  pub index : HasIndex text
  pub whole : (places text).dir_len % 32 ≡ 0

pub good_index : (text : List ℕ) → index_fault text ≡ None → GoodIndex text
unfolding index_fault
good_index text e =
    let h = three (has_magic text) (has_index text) (has_directory text) Magic Index Directory e in
    record { magic = (has_magic-Decides text).0 h.0; index = (has_index-Decides text).0 h.1; whole = (has_directory-Decides text).0 h.2 }

faultless_index : (text : List ℕ) → GoodIndex text → index_fault text ≡ None
unfolding index_fault
faultless_index text good = rw ((has_magic-Decides text).1 good.magic, (has_index-Decides text).1 good.index, (has_directory-Decides text).1 good.whole) refl

-- ---- what holds items has no fault, and one list

module _ (tested : FilesAreTested) (text : List ℕ) (p : Places) (items : List Item) (holds : Holds text p items) where
  front : part text 0 64 ≡ index_bytes p
  front = holds.index.same

  placed : places text ≡ p
  placed = places_read text p front (omega (arith, holds.short, holds.order, holds.inside)) (omega (arith, holds.short, holds.order, holds.inside)) (omega (arith, holds.short, holds.inside)) (omega (arith, holds.short, holds.inside))

  here : Holds text (places text) items
  here = subst (λ (q : Places). Holds text q items) (sym placed) holds

  good : GoodIndex text
  good = record {
    magic = sym (part-part text 0 64 0 8 (omega arith)) ∙ ap (λ (l : List ℕ). part l 0 8) front;
    index = record {
      long = holds.index.inside;
      two_entries = number_again w64 (2 ^ 64) wide64 text 0 64 8 48 (index_bytes p) (omega arith) (omega arith) front refl;
      first = sym (part-part text 0 64 16 8 (omega arith)) ∙ ap (λ (l : List ℕ). part l 16 8) front;
      second = sym (part-part text 0 64 40 8 (omega arith)) ∙ ap (λ (l : List ℕ). part l 40 8) front;
      dir_at = here.dir_aligned;
      dir_len = omega (arith, here.dir_len);
      names_at = here.names_aligned;
      names_len = here.names_whole;
      behind = here.behind;
      order = here.order;
      inside = here.inside;
    };
    whole = omega (arith, here.dir_len);
  }

  counted : count text ≡ length items
  counted = omega (arith, here.dir_len)

  read : Reading tested text holds.short here.inside 0 items
  read =
      let at : (places text).dir_at + 32 * 0 ≡ (places text).dir_at = omega arith in
      let there = ap (λ (n : ℕ). part text n (32 * length items)) at ∙ ap (λ (n : ℕ). part text (places text).dir_at n) (sym (length-directory items)) ∙ here.directory.same in
      reading tested text holds.short here.inside items 0 [] (names_end text) there here.each refl refl (omega arith) here.ascend

  pub none : first_fault text ≡ None
  unfolding first_fault
  none = rw (faultless_index text good) (ap (entries_fault text 0) counted ∙ read.none)

  pub one : map file_of items ≡ files text
  one = sym (ap (λ (n : ℕ). map (λ j. (name_of text j, data_of text j)) (range_with_len 0 n)) counted ∙ read.same)

pub has_no_fault : FilesAreTested → (text : List ℕ) (list : List (List ℕ × List ℕ)) → IsArchive text list → first_fault text ≡ None
has_no_fault tested text list is = none tested text is.0 is.1 is.2

pub has_one_list : FilesAreTested → (text : List ℕ) (list : List (List ℕ × List ℕ)) → IsArchive text list → list ≡ files text
has_one_list tested text list is = is.3 ∙ one tested text is.0 is.1 is.2

-- ---- what has no fault holds the items of its directory

pub stands : FilesAreTested → (text : List ℕ) → AreBytes text → length text < 2 ^ 64 → first_fault text ≡ None → IsArchive text (files text)
unfolding first_fault
stands tested text fits short e =
    let parts = neither (index_fault text) (entries_fault text 0 (count text)) e in
    let good = good_index text parts.0 in
    let p = places text in
    let items = items_from text 0 (count text) in
    let size : length items ≡ count text = length-map-range_with_len _ 0 (count text) in
    let total : p.dir_len ≡ 32 * length items = omega (arith, good.whole, size) in
    let w = writing tested text fits good.index.inside (count text) 0 (omega (arith, good.whole, good.index.order, good.index.inside)) parts.1 in
    let at : p.dir_at + 32 * 0 ≡ p.dir_at = omega arith in
    let len : length (flat_map item_bytes items) ≡ 32 * count text = omega (arith, length-directory items, size) in (
      p,
      items,
      record {
        short = short;
        index = record { inside = good.index.long; same = index_written text fits good.index.long good.magic good.index.two_entries good.index.first good.index.second };
        directory = record {
          inside = omega (arith, len, total, size, good.index.order, good.index.inside);
          same = ap (λ (n : ℕ). part text p.dir_at n) len ∙ ap (λ (n : ℕ). part text n (32 * count text)) (sym at) ∙ w.directory;
        };
        dir_len = total;
        behind = good.index.behind;
        order = good.index.order;
        inside = good.index.inside;
        dir_aligned = good.index.dir_at;
        names_aligned = good.index.names_at;
        names_whole = good.index.names_len;
        each = w.each;
        ascend = w.ascend;
      },
      w.same,
    )

-- ---- names ascend

all_greater : (name : List ℕ) (end : ℕ) (items : List Item) → Ascend name end items → AllByRecursion (λ y. slice_cmp nat_cmp name y ≡ Less) (map (λ file. file.0) (map file_of items))
all_greater name end [] h = tt
all_greater name end (i ∷ items) h = (h.0, later items (all_greater i.name (i.data_at + length i.bytes) items h.2))
  where
    later : (rest : List Item) → AllByRecursion (λ y. slice_cmp nat_cmp i.name y ≡ Less) (map (λ file. file.0) (map file_of rest)) → AllByRecursion (λ y. slice_cmp nat_cmp name y ≡ Less) (map (λ file. file.0) (map file_of rest))
    later [] k = tt
    later (j ∷ rest) k = (nat_list_cmp_total.trans name i.name j.name h.0 k.0, later rest k.1)

sorted : (name : List ℕ) (end : ℕ) (items : List Item) → Ascend name end items → HasAscendingNames (map file_of items)
unfolding IsStrictlySortedBy
sorted name end [] h = tt
sorted name end (i ∷ items) h = (all_greater i.name (i.data_at + length i.bytes) items h.2, sorted i.name (i.data_at + length i.bytes) items h.2)

pub names_ascend : (text : List ℕ) (list : List (List ℕ × List ℕ)) → IsArchive text list → HasAscendingNames list
names_ascend text list is = subst HasAscendingNames (sym is.3) (sorted [] ((is.0).names_at + (is.0).names_len) is.1 (is.2).ascend)
