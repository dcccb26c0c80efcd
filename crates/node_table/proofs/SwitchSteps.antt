-- The steps of a switch: the past before it, and after each of its three calls.
use Rattle.std.proofs.Common.{◌≡◌, ◌⊎◌, ℕ, ◌+◌, ◌/◌, ◌<◌, ◌≤◌, Bool, true, false, not, List, [], set, sym, subst, inl, inr, arith, Option, IfSome, get_or-set_same, get_or-set_other}
use Rattle.disk_model.specs.declared.act.DiskAct.TheVariants.{Wrote, Synced}
use Rattle.disk_model.specs.Past.{Page, Pages, page_at, Past, IsPast, with_act}
use Rattle.disk_model.specs.Images.{EachImage, AtEach, WritesOnly, IsInRow}
use Rattle.disk_model.proofs.Moments.{Tried, Ended, each_weaker, each_both, each_all, each_write, each_sync, written, settled, at_write, at_sync, at_end, at_weaker}
use Rattle.disk_model.proofs.Regions.{outside, writes_wider}
use Rattle.image_layout.specs.declared.geometry.Geometry.{Geometry}
use Rattle.image_layout.specs.declared.geometry.TheConstants.{SELECTOR_PAGE}
use Rattle.image_layout.specs.Geometry.{IsWithinLimits, IsIn, table_pages, table_start, table_region}
use Rattle.node_table.specs.declared.entry.Entry.{Entry}
use Rattle.node_table.specs.declared.rows.Row.{Row}
use Rattle.node_table.specs.Spelling.{Selects}
use Rattle.node_table.specs.Table.{HasTable}
use Rattle.node_table.specs.Steps.{WrittenAs, HasRows, HasLinks, HasCopy, LaysOut}
use Rattle.node_table.proofs.PagesAs.{each_as}
use Rattle.node_table.proofs.TableLemmas.{table_from, lasts, copies_apart}

pub after_selector : (g : Geometry) (second : Bool) → SELECTOR_PAGE < table_start g second
after_selector g true = omega arith
after_selector g false = omega arith

module _ (g : Geometry) (second : Bool) (rows : List Row) (links : List ℕ) (limits : IsWithinLimits g) where
  abbrev pub Region : ℕ → Type 0
  Region = IsIn (table_region g second)

  abbrev pub Copy : Pages → Type 0
  Copy = HasCopy g second rows links

  -- a write of the selector leaves the copy
  copy_stays : (image : Pages) (page : Page) → Copy image → Copy (set image SELECTOR_PAGE page)
  copy_stays image page copy = record {
    row_pages = λ j lt. subst (HasRows rows j) (sym (get_or-set_other image SELECTOR_PAGE (table_start g second + j) page [] (λ e. omega (arith, e, after_selector g second)))) (copy.row_pages j lt);
    link_pages = λ j lt. subst (HasLinks links j) (sym (get_or-set_other image SELECTOR_PAGE (table_start g second + g.blobs / 64 + j) page [] (λ e. omega (arith, e, after_selector g second)))) (copy.link_pages j lt);
  }

  -- What was written of a copy is settled by a sync.
  pub copy_settled : (count : ℕ) (old new : Option Past) → table_start g second + table_pages g ≤ count → IfSome old (IsPast count)
      → ((j : ℕ) → j < g.blobs / 64 → WrittenAs old (table_start g second + j) (HasRows rows j))
      → ((j : ℕ) → j < g.data_pages / 1024 → WrittenAs old (table_start g second + g.blobs / 64 + j) (HasLinks links j))
      → new ≡ with_act old Synced → EachImage new Copy
  copy_settled count old new room fits row_pages link_pages e =
      each_weaker (λ image. ((j : ℕ) → j < g.blobs / 64 → HasRows rows j (page_at image (table_start g second + j))) × ((j : ℕ) → j < g.data_pages / 1024 → HasLinks links j (page_at image (table_start g second + g.blobs / 64 + j)))) Copy new
      (λ image both. record { row_pages = both.0; link_pages = both.1 })
      (each_both (λ image. (j : ℕ) → j < g.blobs / 64 → HasRows rows j (page_at image (table_start g second + j))) (λ image. (j : ℕ) → j < g.data_pages / 1024 → HasLinks links j (page_at image (table_start g second + g.blobs / 64 + j))) new
      (each_all (λ j image. HasRows rows j (page_at image (table_start g second + j))) (g.blobs / 64) new (λ j lt. each_as (table_start g second + j) (HasRows rows j) count old new (omega (arith, lt, room)) fits (row_pages j lt) e))
      (each_all (λ j image. HasLinks links j (page_at image (table_start g second + g.blobs / 64 + j))) (g.data_pages / 1024) new (λ j lt. each_as (table_start g second + g.blobs / 64 + j) (HasLinks links j) count old new (omega (arith, lt, room)) fits (link_pages j lt) e)))

  module _ (before after : List Entry) where
    abbrev pub Before : Pages → Type 0
    Before = HasTable g (not second) before

    abbrev pub After : Pages → Type 0
    After = HasTable g second after

    abbrev pub Either : Pages → Type 0
    Either image = Before image ⊎ After image

    module _ (p0 p1 p2 p3 : Option Past) (counts : EachImage p0 Before) (only : WritesOnly p0 p1 Region) where
      at_before : AtEach p0 p1 Before
      at_before = outside Region Before p0 p1 (lasts Region g (not second) before limits (λ n within own. copies_apart g second n within own)) counts only

      pub at1 : AtEach p0 p1 Either
      at1 = at_weaker Before Either p0 p1 (λ image has. inl has) at_before

      module _ (page : Page) (selects : Selects page second) (laid : LaysOut g rows links after) (copies : EachImage p1 Copy) (tried : Tried SELECTOR_PAGE page p1 p2) where
        each2 : EachImage p2 Either
        each2 =
            each_write (λ image. Before image × Copy image) Either SELECTOR_PAGE page p1 p2 tried
            (each_both Before Copy p1 (at_end Before p0 p1 at_before) copies)
            (λ image both. inl both.0)
            (λ image lt both. inr (table_from g second rows links after (set image SELECTOR_PAGE page) limits
            (subst (λ (p : Page). Selects p second) (sym (get_or-set_same image SELECTOR_PAGE page [] lt)) selects) (copy_stays image page both.1) laid))

        pub at2 : AtEach p0 p2 Either
        at2 = at_write Either SELECTOR_PAGE page p0 p1 p2 at1 tried each2

        pub at3 : Ended p2 p3 → AtEach p0 p3 Either
        at3 ended = at_sync Either p0 p2 p3 at2 ended

  -- After the last sync the copy counts, whatever counted before.
  pub done : (page : Page) → Selects page second → (after : List Entry) → LaysOut g rows links after → (count : ℕ) (p1 p2 p3 : Option Past) → SELECTOR_PAGE < count → IfSome p2 (IsPast count) → EachImage p1 Copy → p2 ≡ with_act p1 (Wrote SELECTOR_PAGE page) → p3 ≡ with_act p2 Synced → EachImage p3 (HasTable g second after)
  done page selects after laid count p1 p2 p3 room fits copies wrote synced =
      let each2 : EachImage p2 Copy = each_write Copy Copy SELECTOR_PAGE page p1 p2 (inl wrote) copies (λ image copy. copy) (λ image lt copy. copy_stays image page copy) in
      each_weaker (λ image. Copy image × (page_at image SELECTOR_PAGE ≡ page)) (HasTable g second after) p3
      (λ image both. table_from g second rows links after image limits (subst (λ (p : Page). Selects p second) (sym both.1) selects) both.0 laid)
      (each_both Copy (λ image. page_at image SELECTOR_PAGE ≡ page) p3 (each_sync Copy p2 p3 (inl synced) each2) (settled SELECTOR_PAGE page count p2 p3 room fits (written SELECTOR_PAGE page p1 p2 wrote) synced))

-- The pages of rows and of links are those of the copy.
pub rows_only : (g : Geometry) (second : Bool) (first count : ℕ) (old new : Option Past) → first ≡ table_start g second → count ≡ g.blobs / 64 → WritesOnly old new (IsInRow first count) → WritesOnly old new (IsIn (table_region g second))
rows_only g second first count old new is size only =
    writes_wider (IsInRow first count) (IsIn (table_region g second)) old new (λ n within. (omega (arith, within.from, is), omega (arith, within.below, is, size))) only

pub links_only : (g : Geometry) (second : Bool) (first count : ℕ) (old new : Option Past) → first ≡ table_start g second + g.blobs / 64 → count ≡ g.data_pages / 1024 → WritesOnly old new (IsInRow first count) → WritesOnly old new (IsIn (table_region g second))
links_only g second first count old new is size only =
    writes_wider (IsInRow first count) (IsIn (table_region g second)) old new (λ n within. (omega (arith, within.from, is), omega (arith, within.below, is, size))) only
