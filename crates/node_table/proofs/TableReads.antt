-- What was read of a table stands together in some image.
use Rattle.std.proofs.Common.{◌≡◌, ◌≢◌, ℕ, zero, suc, ◌+◌, ◌-◌, ◌/◌, ◌<◌, ◌≤◌, Bool, true, false, List, subst, inl, inr, arith, Option, Some, None, IfSome}
use Rattle.std.proofs.lemmas.Bool.{cases_lt}
use Rattle.disk_model.specs.Past.{Page, Pages, page_at, Past, IsPast}
use Rattle.disk_model.specs.Images.{SomeImage, EachImage}
use Rattle.disk_model.proofs.ReadPages.{some_weaker}
use Rattle.image_layout.specs.declared.geometry.Geometry.{Geometry}
use Rattle.image_layout.specs.declared.geometry.TheConstants.{SELECTOR_PAGE}
use Rattle.image_layout.specs.declared.Place.TheVariants as place
use Rattle.image_layout.specs.Geometry.{IsWithinLimits, table_pages, table_start, total_pages}
use Rattle.node_table.specs.declared.entry.Entry.{Entry}
use Rattle.node_table.specs.declared.rows.Row.{Row}
use Rattle.node_table.specs.Spelling.{Selects, IsFirstBad}
use Rattle.node_table.specs.Table.{HasTable, IsDamaged, HaveOneTable}
use Rattle.node_table.specs.Steps.{ReadAs, HasRows, HasLinks, IsRead, LaysOut, row_from, link_from}
use Rattle.node_table.proofs.PagesAs.{reads_together, read_weaker}
use Rattle.node_table.proofs.SwitchSteps.{after_selector}
use Rattle.node_table.proofs.TableLemmas.{table_from, damage_from, one_table}

pub read_one : (n : ℕ) (P : Page → Type 0) (count : ℕ) (told : Option Past) → n < count → IfSome told (IsPast count) → ReadAs told n P → SomeImage told (λ image. P (page_at image n))
read_one n P count told lt fits read =
    some_weaker (λ image. (i : ℕ) → i < 1 → P (page_at image n)) (λ image. P (page_at image n)) told (λ image all. all 0 (omega arith))
    (reads_together (λ _. n) (λ _. P) 1 count told (λ i j before below. absurd (omega (arith, before, below))) (λ i _. lt) fits (λ i _. read))

-- the pages that are read: the selector, and those of the copy
read_place : ℕ → ℕ → ℕ
read_place first zero = SELECTOR_PAGE
read_place first (suc j) = first + j

module _ (g : Geometry) (second : Bool) (rows : List Row) (links : List ℕ) where
  ReadPart : ℕ → Page → Type 0
  ReadPart zero page = Selects page second
  ReadPart (suc j) page = (j < g.blobs / 64 → HasRows rows j page) × (g.blobs / 64 ≤ j → HasLinks links (j - g.blobs / 64) page)

  apart : (i j : ℕ) → i < j → read_place (table_start g second) i ≢ read_place (table_start g second) j
  unfolding read_place
  apart zero zero lt e = omega (arith, lt)
  apart zero (suc j) lt e = omega (arith, e, after_selector g second)
  apart (suc i) zero lt e = omega (arith, lt)
  apart (suc i) (suc j) lt e = omega (arith, lt, e)

  below : (count : ℕ) → table_start g second + table_pages g ≤ count → (i : ℕ) → i < 1 + table_pages g → read_place (table_start g second) i < count
  unfolding read_place
  below count room zero lt = omega (arith, room, after_selector g second)
  below count room (suc j) lt = omega (arith, room, lt)

  module _ (told : Option Past) (choice : ReadAs told SELECTOR_PAGE (λ page. Selects page second)) (row_pages : (j : ℕ) → j < g.blobs / 64 → ReadAs told (table_start g second + j) (HasRows rows j)) (link_pages : (j : ℕ) → j < g.data_pages / 1024 → ReadAs told (table_start g second + g.blobs / 64 + j) (HasLinks links j)) where
    part_read : (i : ℕ) → i < 1 + table_pages g → ReadAs told (read_place (table_start g second) i) (ReadPart i)
    unfolding read_place ReadPart
    part_read zero lt = choice
    part_read (suc j) lt =
        elim (cases_lt j (g.blobs / 64)) [
          | inl before ↦ read_weaker (table_start g second + j) (HasRows rows j) (λ page. (j < g.blobs / 64 → HasRows rows j page) × (g.blobs / 64 ≤ j → HasLinks links (j - g.blobs / 64) page)) told
              (λ page has. (λ _. has, λ past. absurd (omega (arith, before, past)))) (row_pages j before)
          | inr past ↦
              let k = j - g.blobs / 64 in
              let at : table_start g second + g.blobs / 64 + k ≡ table_start g second + j = omega (arith, past) in
              subst (λ (n : ℕ). ReadAs told n (λ page. (j < g.blobs / 64 → HasRows rows j page) × (g.blobs / 64 ≤ j → HasLinks links (j - g.blobs / 64) page))) at
              (read_weaker (table_start g second + g.blobs / 64 + k) (HasLinks links k) (λ page. (j < g.blobs / 64 → HasRows rows j page) × (g.blobs / 64 ≤ j → HasLinks links (j - g.blobs / 64) page)) told
              (λ page has. (λ before. absurd (omega (arith, before, past)), λ _. has)) (link_pages k (omega (arith, past, lt))))
        ]

    parts_are : (image : Pages) → ((i : ℕ) → i < 1 + table_pages g → ReadPart i (page_at image (read_place (table_start g second) i))) → IsRead g rows links (Some second) image
    unfolding read_place ReadPart
    parts_are image all = (
      all 0 (omega arith),
      record {
        row_pages = λ j lt. (all (suc j) (omega (arith, lt))).0 lt;
        link_pages = λ j lt.
            let k = g.blobs / 64 + j in
            let back : k - g.blobs / 64 ≡ j = omega arith in
            let at : table_start g second + k ≡ table_start g second + g.blobs / 64 + j = omega arith in
            subst (λ (n : ℕ). HasLinks links j (page_at image n)) at (subst (λ (n : ℕ). HasLinks links n (page_at image (table_start g second + k))) back ((all (suc k) (omega (arith, lt))).1 (omega arith)));
      },
    )

    pub read_copy : (count : ℕ) → table_start g second + table_pages g ≤ count → IfSome told (IsPast count) → SomeImage told (IsRead g rows links (Some second))
    read_copy count room fits =
        some_weaker (λ image. (i : ℕ) → i < 1 + table_pages g → ReadPart i (page_at image (read_place (table_start g second) i))) (IsRead g rows links (Some second)) told
        parts_are
        (reads_together (read_place (table_start g second)) ReadPart (1 + table_pages g) count told (λ i j lt _. apart i j lt) (below count room) fits part_read)

-- A copy lies within the image.
pub copy_within : (g : Geometry) (second : Bool) → table_start g second + table_pages g ≤ total_pages g
copy_within g true = omega arith
copy_within g false = omega arith

-- What was read is the table of some image, or is damaged there.
pub some_table : (g : Geometry) (second : Bool) (rows : List Row) (links : List ℕ) (entries : List Entry) (told : Option Past) → IsWithinLimits g → LaysOut g rows links entries → SomeImage told (IsRead g rows links (Some second)) → SomeImage told (HasTable g second entries)
some_table g second rows links entries told limits laid read = some_weaker (IsRead g rows links (Some second)) (HasTable g second entries) told (λ image is. table_from g second rows links entries image limits is.0 is.1 laid) read

pub some_damage : (g : Geometry) (second : Bool) (rows : List Row) (links : List ℕ) (i page : ℕ) (told : Option Past) → IsWithinLimits g → IsFirstBad g (row_from rows) (link_from links) i → page ≡ table_start g second + i / 64 → SomeImage told (IsRead g rows links (Some second)) → SomeImage told (IsDamaged g (place.Table page))
some_damage g second rows links i page told limits bad is read = some_weaker (IsRead g rows links (Some second)) (IsDamaged g (place.Table page)) told (λ image has. damage_from g second rows links i page image limits has.0 has.1 bad is) read

-- Where all images have one table, it is the one that some image has.
pub each_from_some : (g : Geometry) (second : Bool) (entries : List Entry) (told : Option Past) → HaveOneTable told g → SomeImage told (HasTable g second entries) → EachImage told (HasTable g second entries)
each_from_some g second entries None one some = tt
each_from_some g second entries (Some past) one some =
    let same = one_table g one.0 second one.1 entries some.0 (one.2 some.0 some.1) some.2 in
    subst (λ (es : List Entry). EachImage (Some past) (HasTable g second es)) same.1 (subst (λ (c : Bool). EachImage (Some past) (HasTable g c one.1)) same.0 one.2)
