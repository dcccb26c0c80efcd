-- Pages of zeros are a table without entries.
use Rattle.std.proofs.Common.{◌≡◌, ℕ, ◌+◌, ◌*◌, ◌<◌, ◌==◌, not, true, false, List, [], take, get_or, sym, ◌∙◌, ap, subst, inl, inr, arith, Option, IfSome}
use Rattle.std.proofs.lemmas.Bool.{cases_lt}
use Rattle.std.proofs.lemmas.Slice.{between_is}
use Rattle.std.proofs.lemmas.List.{get_or-drop, get_or-take, get_or-replicate}
use Rattle.disk_model.specs.declared.act.DiskAct.TheVariants.{Wrote, Synced}
use Rattle.disk_model.specs.Past.{Page, Pages, page_at, zero_page, Past, IsPast, with_act}
use Rattle.disk_model.specs.Images.{EachImage, IsWritten, IsInRow, WritesOnly}
use Rattle.disk_model.proofs.Moments.{each_weaker, each_both, written, written_write, settled}
use Rattle.disk_model.proofs.Regions.{writes_wider}
use Rattle.image_layout.specs.declared.geometry.Geometry.{Geometry}
use Rattle.image_layout.specs.declared.geometry.TheConstants.{SELECTOR_PAGE}
use Rattle.image_layout.specs.Geometry.{table_start, table_pages}
use Rattle.node_table.specs.Spelling.{Selects, row_on}
use Rattle.node_table.specs.Table.{HasTable, IsTablePage}

zero_byte : (i : ℕ) → i < 4096 → get_or zero_page i 0 ≡ 0
unfolding zero_page
zero_byte i lt = get_or-replicate 4096 i 0 0 lt

zero_unused : (row_on zero_page 0).used ≡ false
zero_unused =
    ap (λ (n : ℕ). not (n == 0))
    (ap (λ (l : List ℕ). get_or l 44 0) (between_is zero_page 0 64) ∙ get_or-drop 0 (take 64 zero_page) 44 0 ∙ get_or-take 64 zero_page 44 0 (omega arith) ∙ zero_byte 44 (omega arith))

empty : (g : Geometry) (page : Page) (image : Pages) → Selects page false → page_at image SELECTOR_PAGE ≡ page → page_at image (table_start g false + 0) ≡ zero_page → HasTable g false [] image
empty g page image selects selector rows = record {
  selected = subst (λ (p : Page). Selects p false) (sym selector) selects;
  listed = record {
    rows = λ i d lt. absurd (omega (arith, lt));
    chains = λ k d lt. absurd (omega (arith, lt));
    sound = record { room = omega arith; each = λ k d lt. absurd (omega (arith, lt)); together = λ i j d before lt. absurd (omega (arith, lt)) };
  };
  ends = λ _. ap (λ (p : Page). (row_on p 0).used) rows ∙ zero_unused;
}

pub empty_settled : (g : Geometry) (page : Page) (first count : ℕ) (p1 p2 p3 : Option Past) → Selects page false → first ≡ table_start g false → first < count → IfSome p2 (IsPast count) → IsWritten p1 (first + 0) zero_page → p2 ≡ with_act p1 (Wrote SELECTOR_PAGE page) → p3 ≡ with_act p2 Synced → EachImage p3 (HasTable g false [])
empty_settled g page first count p1 p2 p3 selects is room fits zeros wrote synced =
    let at : first + 0 ≡ table_start g false + 0 = ap (λ (n : ℕ). n + 0) is in
    let stays : IsWritten p2 (first + 0) zero_page = written_write (first + 0) zero_page SELECTOR_PAGE page p1 p2 (λ e. omega (arith, e, is)) (inl wrote) zeros in
    each_weaker (λ image. (page_at image SELECTOR_PAGE ≡ page) × (page_at image (first + 0) ≡ zero_page)) (HasTable g false []) p3
    (λ image both. empty g page image selects both.0 (ap (page_at image) (sym at) ∙ both.1))
    (each_both (λ image. page_at image SELECTOR_PAGE ≡ page) (λ image. page_at image (first + 0) ≡ zero_page) p3
    (settled SELECTOR_PAGE page count p2 p3 (omega (arith, room, is)) fits (written SELECTOR_PAGE page p1 p2 wrote) synced)
    (settled (first + 0) zero_page count p2 p3 (omega (arith, room)) fits stays synced))

within : (g : Geometry) (first count n : ℕ) → first ≡ table_start g false → count ≡ 2 * table_pages g → IsInRow first count n → IsTablePage g n
within g first count n is size row =
    elim (cases_lt n (3 + table_pages g)) [
      | inl lt ↦ inr (false, (omega (arith, row.from, is), omega (arith, lt)))
      | inr past ↦ inr (true, (omega (arith, past), omega (arith, row.below, is, size)))
    ]

pub zeros_only : (g : Geometry) (first count : ℕ) (old new : Option Past) → first ≡ table_start g false → count ≡ 2 * table_pages g → WritesOnly old new (IsInRow first count) → WritesOnly old new (IsTablePage g)
zeros_only g first count old new is size only = writes_wider (IsInRow first count) (IsTablePage g) old new (λ n row. within g first count n is size row) only
