-- The entries of a text without a fault, by number.
use Rattle.std.proofs.Common.{◌≡◌, ◌≢◌, ℕ, zero, suc, ◌+◌, ◌-◌, ◌*◌, ◌/◌, ◌^◌, ◌<◌, ◌≤◌, List, [], length, get_or, All, Some, None, sym, ap, subst, ◌∙◌, arith, inl, inr}
use Rattle.std.specs.declared.cmp.Ordering.TheVariants.{Less, Equal, Greater}
use Rattle.std.specs.Prelude.{Contains, slice_get}
use Rattle.std.specs.Option.{option_map}
use Rattle.std.proofs.lemmas.Option.{slice_get-get_or}
use Rattle.std.specs.Ordering.{nat_cmp, is_eq, ordering_reverse}
use Rattle.std.specs.Cmp.Lexicographic.{slice_cmp}
use Rattle.std.proofs.lemmas.Bool.{cases_lt}
use Rattle.std.proofs.lemmas.Cmp.{nat_list_cmp_total, tied_itself}
use Rattle.std.proofs.lemmas.Map.Text.{is_eq-slice_cmp}
use Rattle.std.proofs.lemmas.Slice.Eq.{bytes_eq-Decides}
use Rattle.std.proofs.lemmas.List.FromFn.{length-map-range_with_len, get_or-map-range_with_len}
use Rattle.far_archive.specs.declared.fields.Places.{Places}
use Rattle.far_archive.specs.Fields.{entry_of, count, name_of, data_of, files}
use Rattle.far_archive.specs.Faults.{index_fault, entry_fault, entries_fault, first_fault}
use Rattle.far_archive.specs.Invariant.{Keeps}
use Rattle.far_archive.proofs.Facts.{HasRange}
use Rattle.far_archive.proofs.Holding.{neither, HasPlace, placed}
use Rattle.far_archive.proofs.Law.{GoodIndex, good_index}

each_faultless : (text : List ℕ) (n k j : ℕ) → entries_fault text k n ≡ None → k ≤ j → j < k + n → entry_fault text j ≡ None
unfolding entries_fault
each_faultless text zero k j none low high = absurd (omega arith)
each_faultless text (suc n) k j none low high =
    let here = neither (entry_fault text k) (entries_fault text (k + 1) n) none in
    elim (cases_lt k j) [
      | inl later ↦ each_faultless text n (k + 1) j here.1 (omega arith) (omega arith)
      | inr first ↦
          let e : k ≡ j = omega arith in
          subst (λ (i : ℕ). entry_fault text i ≡ None) e here.0
    ]

-- the index and the entries of a text without a fault
pub record Sound (text : List ℕ) : Type 0 where
  pub index : GoodIndex text
  pub names : (k : ℕ) → k < count text → HasPlace text k
  pub ranges : (k : ℕ) → k < count text → HasRange text k

pub sound : (text : List ℕ) → first_fault text ≡ None → Sound text
unfolding first_fault
sound text e =
    let parts = neither (index_fault text) (entries_fault text 0 (count text)) e in
    let each = λ (k : ℕ) (lt : k < count text). placed text k (each_faultless text (count text) 0 k parts.1 (omega arith) (omega arith)) in
    record { index = good_index text parts.0; names = λ k lt. (each k lt).0; ranges = λ k lt. (each k lt).1 }

-- the entry lies within the directory
pub entry_within : (text : List ℕ) (p : Places) (k : ℕ) → Keeps text p → k < count text → p.dir_at + 32 * k + 32 ≤ length text
entry_within text p k keeps lt =
    let is = (sound text keeps.sound).index in
    rw keeps.places (omega (arith, is.whole, is.index.order, is.index.inside))

pub name_within : (text : List ℕ) (p : Places) (k : ℕ) → Keeps text p → k < count text → p.names_at + (entry_of text k).name_at + (entry_of text k).name_len ≤ length text
name_within text p k keeps lt =
    let is = sound text keeps.sound in
    rw keeps.places (omega (arith, is.index.index.inside, (is.names k lt).inside))

pub file_within : (text : List ℕ) (p : Places) (k : ℕ) → Keeps text p → k < count text → (entry_of text k).data_at + (entry_of text k).data_len ≤ length text
file_within text p k keeps lt = ((sound text keeps.sound).ranges k lt).inside

-- ---- names ascend

-- by the distance of two entries
ascend : (text : List ℕ) → Sound text → (d i : ℕ) → i + 1 + d < count text → slice_cmp nat_cmp (name_of text i) (name_of text (i + 1 + d)) ≡ Less
ascend text is zero i lt =
    let next : i + 1 + 0 ≡ suc i = omega arith in
    rw next (is.names (suc i) (omega arith)).greater
ascend text is (suc d) i lt =
    let last : i + 1 + suc d ≡ suc (i + 1 + d) = omega arith in
    let step = (is.names (suc (i + 1 + d)) (omega arith)).greater in
    rw last (nat_list_cmp_total.trans (name_of text i) (name_of text (i + 1 + d)) (name_of text (suc (i + 1 + d))) (ascend text is d i (omega arith)) step)

pub ascending : (text : List ℕ) → first_fault text ≡ None → (i j : ℕ) → i < j → j < count text → slice_cmp nat_cmp (name_of text i) (name_of text j) ≡ Less
ascending text none i j lt high =
    let at : i + 1 + (j - (i + 1)) ≡ j = omega arith in
    subst (λ (k : ℕ). slice_cmp nat_cmp (name_of text i) (name_of text k) ≡ Less) at (ascend text (sound text none) (j - (i + 1)) i (omega arith))

-- a name that is less than another is not that one
pub less_differs : (a b : List ℕ) → slice_cmp nat_cmp a b ≡ Less → a ≢ b
less_differs a b less e =
    let tied : slice_cmp nat_cmp a b ≡ Equal = ap (λ (x : List ℕ). slice_cmp nat_cmp a x) (sym e) ∙ tied_itself nat_list_cmp_total a in
    absurd cc

pub greater_is : (a b : List ℕ) → slice_cmp nat_cmp a b ≡ Greater → slice_cmp nat_cmp b a ≡ Less
greater_is a b greater = nat_list_cmp_total.antisymm b a ∙ ap ordering_reverse greater

pub equal_is : (a b : List ℕ) → slice_cmp nat_cmp a b ≡ Equal → a ≡ b
equal_is a b equal = (bytes_eq-Decides a b).0 (sym (is_eq-slice_cmp a b) ∙ ap is_eq equal)

-- what bisection has excluded: the names below low, and those from high on
pub record Excludes (text name : List ℕ) (low high : ℕ) : Type 0 where
  pub range : low ≤ high
  pub top : high ≤ count text
  pub below : (j : ℕ) → j < low → slice_cmp nat_cmp (name_of text j) name ≡ Less
  pub above : (j : ℕ) → high ≤ j → j < count text → slice_cmp nat_cmp name (name_of text j) ≡ Less

pub goes_up : (text name : List ℕ) (low high middle : ℕ) → first_fault text ≡ None → Excludes text name low high → middle < high → slice_cmp nat_cmp (name_of text middle) name ≡ Less → Excludes text name (middle + 1) high
goes_up text name low high middle none ex lt less =
    record {
      range = omega arith;
      top = ex.top;
      below = λ j h. elim (cases_lt j middle) [
        | inl before ↦ nat_list_cmp_total.trans (name_of text j) (name_of text middle) name (ascending text none j middle before (omega (arith, ex.top))) less
        | inr at ↦
            let e : middle ≡ j = omega arith in
            subst (λ (k : ℕ). slice_cmp nat_cmp (name_of text k) name ≡ Less) e less
      ];
      above = ex.above;
    }

pub goes_down : (text name : List ℕ) (low high middle : ℕ) → first_fault text ≡ None → Excludes text name low high → low ≤ middle → middle < high → slice_cmp nat_cmp (name_of text middle) name ≡ Greater → Excludes text name low middle
goes_down text name low high middle none ex ge lt greater =
    let less = greater_is (name_of text middle) name greater in
    record {
      range = ge;
      top = omega (arith, ex.top);
      below = ex.below;
      above = λ j from h. elim (cases_lt middle j) [
        | inl after ↦ nat_list_cmp_total.trans name (name_of text middle) (name_of text j) less (ascending text none middle j after h)
        | inr at ↦
            let e : middle ≡ j = omega arith in
            subst (λ (k : ℕ). slice_cmp nat_cmp name (name_of text k) ≡ Less) e less
      ];
    }

pub excluded : (text name : List ℕ) (low high : ℕ) → Excludes text name low high → high ≤ low → (k : ℕ) → k < count text → name_of text k ≢ name
excluded text name low high ex le k lt =
    elim (cases_lt k low) [
      | inl below ↦ less_differs (name_of text k) name (ex.below k below)
      | inr above ↦ λ e. less_differs name (name_of text k) (ex.above k (omega arith) lt) (sym e)
    ]

pub count_fits : (text : List ℕ) (p : Places) → Keeps text p → p.dir_len / 32 < 2 ^ 32
count_fits text p keeps =
    let is = (sound text keeps.sound).index.index in
    rw keeps.places (omega (arith, keeps.small, is.order, is.inside))

pub count_is : (text : List ℕ) (p : Places) → Keeps text p → p.dir_len / 32 ≡ length (files text)
count_is text p keeps = ap (λ (q : Places). q.dir_len / 32) keeps.places ∙ sym (length-map-range_with_len _ 0 (count text))

pub file_at : (text : List ℕ) (k : ℕ) (d : List ℕ × List ℕ) → k < count text → get_or (files text) k d ≡ (name_of text k, data_of text k)
file_at text k d lt = get_or-map-range_with_len _ 0 (count text) k k d lt (omega arith)

pub contained : (text name : List ℕ) (k : ℕ) → k < count text → name_of text k ≡ name → Contains (files text) (name, data_of text k)
contained text name k lt e =
    let size : length (files text) ≡ count text = length-map-range_with_len _ 0 (count text) in
    (k, omega (arith, size), file_at text k (name, data_of text k) lt ∙ ap (λ (n : List ℕ). (n, data_of text k)) e)

pub none_named : (text name : List ℕ) → ((k : ℕ) → k < count text → name_of text k ≢ name) → All (λ file. file.0 ≢ name) (files text)
none_named text name h k d lt e =
    let size : length (files text) ≡ count text = length-map-range_with_len _ 0 (count text) in
    let lt' : k < count text = omega (arith, size) in
    h k lt' (sym (ap (λ (file : List ℕ × List ℕ). file.0) (file_at text k d lt')) ∙ e)

pub size_is : (text : List ℕ) → length (files text) ≡ count text
size_is text = length-map-range_with_len _ 0 (count text)

pub named_at : (text : List ℕ) (k : ℕ) → k < count text → option_map (λ file. file.0) (slice_get (files text) k) ≡ Some (name_of text k)
named_at text k lt =
    let d : List ℕ × List ℕ = ([], []) in
    let le : k < length (files text) = omega (arith, size_is text) in
    ap (option_map (λ (file : List ℕ × List ℕ). file.0)) (slice_get-get_or (files text) k d le ∙ ap Some (file_at text k d lt))
