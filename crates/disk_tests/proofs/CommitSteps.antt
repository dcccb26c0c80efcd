-- The steps of a commit: the past before it, and after each of its three calls.
use Rattle.std.proofs.Common.{◌≡◌, ◌⊎◌, ℕ, ◌+◌, ◌-◌, ◌<◌, ◌≤◌, [], length, set, slice_index, sym, refl, ◌∙◌, ap, subst, inl, inr, arith, Option, IfSome, get_or-set_same, get_or-set_other}
use Rattle.disk_model.specs.declared.act.DiskAct.TheVariants.{Wrote, Synced}
use Rattle.disk_model.specs.Past.{Page, Pages, page_at, Past, IsPast, with_act}
use Rattle.disk_model.specs.Images.{EachImage, AtEach, WritesOnly, IsInRow, LastsOver, RowIsSettled}
use Rattle.disk_model.proofs.Moments.{Tried, Ended, each_weaker, each_both, each_write, each_sync, written, settled, at_write, at_sync, at_end, at_weaker}
use Rattle.disk_model.proofs.Regions.{outside}
use Rattle.disk_model.proofs.ManyPages.{each_settled}
use Rattle.disk_tests.specs.Commit.{choice, first_of, HasRow, IsTable}

-- a write elsewhere leaves a row
row_stays : (first : ℕ) (pages image : Pages) (n : ℕ) (bytes : Page) → ((i : ℕ) → i < length pages → first + i ≡ n → ⊥) → HasRow first pages image → HasRow first pages (set image n bytes)
row_stays first pages image n bytes apart row = record {
  each = λ i lt. get_or-set_other image n (first + i) bytes [] (apart i lt) ∙ row.each i lt;
}

table_at : (pages image : Pages) (copy : ℕ) → choice image ≡ copy → HasRow (first_of copy (length pages)) pages image → IsTable pages image
table_at pages image copy e row = subst (λ (c : ℕ). HasRow (first_of c (length pages)) pages image) (sym e) row

first_one : (count : ℕ) → first_of 1 count ≡ 1
first_one count = refl

first_two : (count : ℕ) → first_of 2 count ≡ count + 1
first_two count = refl

-- the two copies lie apart, and apart from page 0
rows_apart : (copy count i j : ℕ) → (copy ≡ 1) ⊎ (copy ≡ 2) → i < count → j < count → first_of (3 - copy) count + i ≡ first_of copy count + j → ⊥
rows_apart copy count i j (inl e) lt below same = let h : count + 1 + i ≡ 1 + j = subst (λ (c : ℕ). first_of (3 - c) count + i ≡ first_of c count + j) e same in omega (arith, h, lt, below)
rows_apart copy count i j (inr e) lt below same = let h : 1 + i ≡ count + 1 + j = subst (λ (c : ℕ). first_of (3 - c) count + i ≡ first_of c count + j) e same in omega (arith, h, lt, below)

not_zero : (copy count : ℕ) → (copy ≡ 1) ⊎ (copy ≡ 2) → 1 ≤ first_of copy count
not_zero copy count (inl e) = subst (λ (c : ℕ). 1 ≤ first_of c count) (sym e) (omega arith)
not_zero copy count (inr e) = subst (λ (c : ℕ). 1 ≤ first_of c count) (sym e) (omega arith)

module _ (first : ℕ) (pages : Pages) (chooser : Page) (is_choice : (slice_index chooser 0 ≡ 1) ⊎ (slice_index chooser 0 ≡ 2)) (is_first : first ≡ first_of (slice_index chooser 0) (length pages)) where
  abbrev copy : ℕ
  copy = slice_index chooser 0

  abbrev Region : ℕ → Type 0
  Region = IsInRow first (length pages)

  from_one : 1 ≤ first
  from_one = omega (arith, is_first, not_zero copy (length pages) is_choice)

  module _ (before : Pages) (same : length before ≡ length pages) where
    abbrev Old : Pages → Type 0
    Old image = (choice image ≡ 3 - copy) × IsTable before image

    abbrev pub Either : Pages → Type 0
    Either image = IsTable before image ⊎ IsTable pages image

    abbrev Chosen : Pages → Type 0
    Chosen image = Either image × HasRow first pages image

    old_lasts : LastsOver Region Old
    old_lasts image n bytes within lt old =
        let zero_stays : page_at (set image n bytes) 0 ≡ page_at image 0 = get_or-set_other image n 0 bytes [] (λ e. omega (arith, e, within.from, from_one)) in
        let chosen : choice (set image n bytes) ≡ 3 - copy = ap (λ (p : Page). slice_index p 0) zero_stays ∙ old.0 in
        let row : HasRow (first_of (3 - copy) (length before)) before image = subst (λ (c : ℕ). HasRow (first_of c (length before)) before image) old.0 old.1 in
        let apart : (i : ℕ) → i < length before → first_of (3 - copy) (length before) + i ≡ n → ⊥ =
        λ i below e. rows_apart copy (length pages) i (n - first) is_choice (omega (arith, below, same)) (omega (arith, within.below, within.from))
        (subst (λ (k : ℕ). first_of (3 - copy) k + i ≡ n) same e ∙ (let back : n ≡ first + (n - first) = omega (arith, within.from) in back) ∙ ap (λ (f : ℕ). f + (n - first)) is_first) in
        (chosen, table_at before (set image n bytes) (3 - copy) chosen (row_stays (first_of (3 - copy) (length before)) before image n bytes apart row))

    -- the write of page 0 chooses the copy
    comes_chosen : (image : Pages) → 0 < length image → HasRow first pages image → Chosen (set image 0 chooser)
    comes_chosen image lt row =
        let stays : HasRow first pages (set image 0 chooser) = row_stays first pages image 0 chooser (λ i below e. omega (arith, e, from_one)) row in
        let chosen : choice (set image 0 chooser) ≡ copy = ap (λ (p : Page). slice_index p 0) (get_or-set_same image 0 chooser [] lt) in
        (inr (table_at pages (set image 0 chooser) copy chosen (subst (λ (f : ℕ). HasRow f pages (set image 0 chooser)) is_first stays)), stays)

    module _ (p0 p1 p2 p3 : Option Past) (free : EachImage p0 (λ image. choice image ≡ 3 - copy)) (counts : EachImage p0 (IsTable before)) (only : WritesOnly p0 p1 Region) where
      at_old : AtEach p0 p1 Old
      at_old = outside Region Old p0 p1 old_lasts (each_both (λ image. choice image ≡ 3 - copy) (IsTable before) p0 free counts) only

      pub at1 : AtEach p0 p1 Either
      at1 = at_weaker Old Either p0 p1 (λ image old. inl old.1) at_old

      module _ (rows : RowIsSettled p1 first pages) (tried : Tried 0 chooser p1 p2) where
        each2 : EachImage p2 Chosen
        each2 =
            each_write (λ image. Old image × ((i : ℕ) → i < length pages → page_at image (first + i) ≡ page_at pages i)) Chosen 0 chooser p1 p2 tried
            (each_both Old (λ image. (i : ℕ) → i < length pages → page_at image (first + i) ≡ page_at pages i) p1 (at_end Old p0 p1 at_old) (each_settled (λ i. first + i) (page_at pages) (length pages) p1 rows))
            (λ image s. (inl s.0.1, record { each = s.1 })) (λ image lt s. comes_chosen image lt (record { each = s.1 }))

        pub at2 : AtEach p0 p2 Either
        at2 = at_write Either 0 chooser p0 p1 p2 at1 tried (each_weaker Chosen Either p2 (λ image c. c.0) each2)

        pub at3 : Ended p2 p3 → AtEach p0 p3 Either
        at3 ended = at_sync Either p0 p2 p3 at2 ended

  -- After the last sync the copy counts, whatever counted before.
  pub done : (count : ℕ) (p1 p2 p3 : Option Past) → 0 < count → IfSome p2 (IsPast count) → RowIsSettled p1 first pages → p2 ≡ with_act p1 (Wrote 0 chooser) → p3 ≡ with_act p2 Synced → EachImage p3 (IsTable pages)
  done count p1 p2 p3 room fits rows wrote synced =
      let Row : Pages → Type 0 = HasRow first pages in
      let each1 : EachImage p1 Row = each_weaker (λ image. (i : ℕ) → i < length pages → page_at image (first + i) ≡ page_at pages i) Row p1 (λ image r. record { each = r }) (each_settled (λ i. first + i) (page_at pages) (length pages) p1 rows) in
      let each2 : EachImage p2 Row = each_write Row Row 0 chooser p1 p2 (inl wrote) each1 (λ image r. r) (λ image lt r. row_stays first pages image 0 chooser (λ i below e. omega (arith, e, from_one)) r) in
      each_weaker (λ image. Row image × (page_at image 0 ≡ chooser)) (IsTable pages) p3
      (λ image c. table_at pages image copy (ap (λ (p : Page). slice_index p 0) c.1) (subst (λ (f : ℕ). HasRow f pages image) is_first c.0))
      (each_both Row (λ image. page_at image 0 ≡ chooser) p3 (each_sync Row p2 p3 (inl synced) each2) (settled 0 chooser count p2 p3 room fits (written 0 chooser p1 p2 wrote) synced))
