-- What the writes of a record, of a piece and of a seal make of the images of a disk.
use Rattle.std.proofs.Common.{◌≡◌, ◌⊎◌, ℕ, ◌+◌, ◌/◌, ◌%◌, ◌<◌, ◌≤◌, List, [], ◌∷◌, ◌++◌, length, take, drop, refl, sym, ◌∙◌, ap, subst, inl, inr, arith, length-append, get_or-set_same, take-add, append_assoc, Option, Some, None, IfSome}
use Rattle.abr_record.specs.declared.Slot.{Slot}
use Rattle.abr_record.specs.declared.Slot.TheVariants.{A, B, R}
use Rattle.abr_record.specs.declared.Record.{Record}
use Rattle.disk_model.specs.declared.act.DiskAct.{DiskAct}
use Rattle.disk_model.specs.declared.act.DiskAct.TheVariants.{Wrote, Synced}
use Rattle.disk_model.specs.Past.{Page, Pages, page_at, Past, IsPast, with_act}
use Rattle.disk_model.specs.Images.{EachImage, AtEach, IsWritten, IsSettled, AllWritten, SettlesOthers, WritesOnly, IsInRow, with_acts}
use Rattle.disk_model.proofs.Moments.{Tried, Ended, each_weaker, each_both, each_write, written, settled, at_start, at_write, at_sync}
use Rattle.disk_model.proofs.Regions.{writes_then, writes_wider}
use Rattle.disk_model.proofs.ManyPages.{all_written_more, all_written_outside}
use Rattle.image_layout.specs.declared.geometry.Geometry.{Geometry}
use Rattle.image_layout.specs.declared.geometry.TheConstants.{RECORD_PAGE}
use Rattle.image_layout.specs.declared.ImageKind.{ImageKind}
use Rattle.image_layout.specs.declared.ImageKind.TheVariants.{Zbi, Vbmeta}
use Rattle.image_layout.specs.declared.ImageSum.{ImageSum}
use Rattle.image_layout.specs.declared.Sys.{Sys}
use Rattle.image_layout.specs.Sums.{image_sum}
use Rattle.image_layout.specs.Geometry.{IsIn, slot_region, total_pages}
use Rattle.slot_disk.specs.declared.part.Parts.{Parts}
use Rattle.slot_disk.specs.Areas.{area_pages, area_start, area_region, area_size, header_page}
use Rattle.slot_disk.specs.Header.{IsHeader, record_on}
use Rattle.slot_disk.specs.Slots.{HasImage, HasSystem, HasRecord}
use Rattle.slot_disk.specs.Filling.{Images, part_of, no_images, with_piece, page_of, page_count, HoldsBytes, HoldsImages, AreWritten, AreOf, IsFilled, AreFilled}
use Rattle.slot_disk.proofs.PageLemmas.{page_of-same}
use Rattle.slot_disk.proofs.SystemLemmas.{area_behind, area_within, areas_apart, settled_image}

-- ---- the record

pub record_settled : (value : Record) (page : Page) (count : ℕ) (p0 p1 p2 : Option Past) → RECORD_PAGE < count → IfSome p1 (IsPast count) → record_on page ≡ value → p1 ≡ with_act p0 (Wrote RECORD_PAGE page) → p2 ≡ with_act p1 Synced → EachImage p2 (HasRecord value)
record_settled value page count p0 p1 p2 room fits is wrote synced =
    each_weaker (λ image. page_at image RECORD_PAGE ≡ page) (HasRecord value) p2 (λ image e. ap record_on e ∙ is)
    (settled RECORD_PAGE page count p1 p2 room fits (written RECORD_PAGE page p0 p1 wrote) synced)

pub record_moment : (before value : Record) (page : Page) (p0 p1 p2 : Option Past) → record_on page ≡ value → Tried RECORD_PAGE page p0 p1 → Ended p1 p2 → EachImage p0 (HasRecord before) → AtEach p0 p2 (λ image. HasRecord before image ⊎ HasRecord value image)
record_moment before value page p0 p1 p2 is tried ended each =
    let Either : Pages → Type 0 = λ image. HasRecord before image ⊎ HasRecord value image in
    let each1 : EachImage p1 Either =
    each_write (HasRecord before) Either RECORD_PAGE page p0 p1 tried each (λ image h. inl h)
    (λ image lt h. inr (ap record_on (get_or-set_same image RECORD_PAGE page [] lt) ∙ is)) in
    at_sync Either p0 p1 p2
    (at_write Either RECORD_PAGE page p0 p0 p1 (at_start Either p0 (each_weaker (HasRecord before) Either p0 (λ image h. inl h) each)) tried each1) ended

-- ---- a piece

-- The next page is written with more bytes on it.
pub piece_written : (first : ℕ) (bytes more : List ℕ) (old new : Option Past) → 0 < length more → length bytes % 4096 + length more ≤ 4096 → new ≡ with_act old (Wrote (first + length bytes / 4096) (page_of (bytes ++ more) (length bytes / 4096))) → AreWritten old first bytes → AreWritten new first (bytes ++ more)
piece_written first bytes more old new some room wrote before =
    let k : ℕ = length bytes / 4096 in
    let all : List ℕ = bytes ++ more in
    let count : page_count (length all) ≡ k + 1 = omega (arith, length-append bytes more) in
    let front : AllWritten old (λ i. first + i) (page_of all) k = λ i lt.
    subst (λ (p : Page). IsWritten old (first + i) p) (sym (page_of-same bytes more i (omega (arith, lt)))) (before i (omega (arith, lt))) in
    subst (λ (n : ℕ). AllWritten new (λ i. first + i) (page_of all) n) (sym count)
    (all_written_more (λ i. first + i) (page_of all) k old new (λ i lt e. omega (arith, e, lt)) wrote front)

-- only pages of the image were written
pub piece_only : (first len done size : ℕ) (p0 p1 p2 : Option Past) → done < size → WritesOnly p0 p1 (IsInRow first (page_count (len + size))) → WritesOnly p1 p2 (IsInRow (first + (len + done) / 4096) 1) → WritesOnly p0 p2 (IsInRow first (page_count (len + size)))
piece_only first len done size p0 p1 p2 more before next =
    writes_then (IsInRow first (page_count (len + size))) p0 p1 p2 before
    (writes_wider (IsInRow (first + (len + done) / 4096) 1) (IsInRow first (page_count (len + size))) p1 p2 (λ n row. record { from = omega (arith, row.from); below = omega (arith, row.below, more) }) next)

-- a part of a piece more
pub more_taken : (bytes piece rest : List ℕ) (done count : ℕ) → rest ≡ drop done piece → (bytes ++ take done piece) ++ take count rest ≡ bytes ++ take (done + count) piece
more_taken bytes piece rest done count is =
    append_assoc bytes (take done piece) (take count rest)
    ∙ ap (λ (l : List ℕ). bytes ++ (take done piece ++ take count l)) is
    ∙ ap (λ (l : List ℕ). bytes ++ l) (sym (take-add done count piece))

-- The area of an image, of which only pages were written.
pub area_only : (g : Geometry) (slot : Slot) (kind : ImageKind) (first len size : ℕ) (old new : Option Past) → first ≡ area_start g slot kind → len + size ≤ area_size g kind → WritesOnly old new (IsInRow first (page_count (len + size))) → WritesOnly old new (IsIn (area_region g slot kind))
area_only g slot kind first len size old new at fits only =
    writes_wider (IsInRow first (page_count (len + size))) (IsIn (area_region g slot kind)) old new (λ n row. (omega (arith, row.from, at), omega (arith, row.below, at, fits))) only

-- An image stays filled where another area was written.
other_filled : (g : Geometry) (slot : Slot) (kind : ImageKind) (bytes : List ℕ) (region : ℕ → Type 0) (old new : Option Past) → ((n : ℕ) → IsIn (area_region g slot kind) n → region n → ⊥) → WritesOnly old new region → IsFilled old g slot kind bytes → IsFilled new g slot kind bytes
other_filled g slot kind bytes region old new apart only is = record {
  room = is.room;
  written = all_written_outside region (λ i. area_start g slot kind + i) (page_of bytes) (page_count (length bytes)) old new
      (λ i lt within. apart (area_start g slot kind + i) (omega arith, omega (arith, lt, is.room)) within) only is.written;
}

-- A piece more of one image leaves both on the disk.
pub piece_filled : (g : Geometry) (slot : Slot) (kind : ImageKind) (parts : Parts) (piece : List ℕ) (first : ℕ) (old new : Option Past) → first ≡ area_start g slot kind → (part_of parts kind).len + length piece ≤ area_size g kind → ((bytes : List ℕ) → HoldsBytes (part_of parts kind) bytes → AreWritten old first bytes → AreWritten new first (bytes ++ piece)) → WritesOnly old new (IsIn (area_region g slot kind)) → (images : Images) → HoldsImages parts images → AreFilled old g slot images → AreFilled new g slot (with_piece kind piece images)
piece_filled g slot Zbi parts piece first old new at fits written only images holds filled =
    let area : ℕ = area_start g slot Zbi in
    record {
      zbi = record {
        room = omega (arith, fits, holds.zbi.count, length-append images.zbi piece);
        written = subst (λ (n : ℕ). AreWritten new n (images.zbi ++ piece)) at (written images.zbi holds.zbi (subst (λ (n : ℕ). AreWritten old n images.zbi) (sym at) filled.zbi.written));
      };
      vbmeta = other_filled g slot Vbmeta images.vbmeta (IsIn (area_region g slot Zbi)) old new (λ n there here. areas_apart g slot n here there) only filled.vbmeta;
    }
piece_filled g slot Vbmeta parts piece first old new at fits written only images holds filled =
    record {
      zbi = other_filled g slot Zbi images.zbi (IsIn (area_region g slot Vbmeta)) old new (λ n there here. areas_apart g slot n there here) only filled.zbi;
      vbmeta = record {
        room = omega (arith, fits, holds.vbmeta.count, length-append images.vbmeta piece);
        written = subst (λ (n : ℕ). AreWritten new n (images.vbmeta ++ piece)) at (written images.vbmeta holds.vbmeta (subst (λ (n : ℕ). AreWritten old n images.vbmeta) (sym at) filled.vbmeta.written));
      };
    }

-- no bytes are on any disk
pub none_filled : (told : Option Past) (g : Geometry) (slot : Slot) → AreFilled told g slot no_images
none_filled told g slot = record {
  zbi = record { room = omega arith; written = λ i lt. absurd (omega (arith, lt)) };
  vbmeta = record { room = omega arith; written = λ i lt. absurd (omega (arith, lt)) };
}

-- what was written lies in the slot
pub area_wider : (g : Geometry) (slot : Slot) (kind : ImageKind) (old new : Option Past) → WritesOnly old new (IsIn (area_region g slot kind)) → WritesOnly old new (IsIn (slot_region g slot))
area_wider g slot kind old new only = writes_wider (IsIn (area_region g slot kind)) (IsIn (slot_region g slot)) old new (λ n within. area_within g slot kind n within.0 within.1) only

pub header_wider : (g : Geometry) (slot : Slot) (old new : Option Past) → WritesOnly old new (IsInRow (header_page g slot) 1) → WritesOnly old new (IsIn (slot_region g slot))
header_wider g slot old new only = writes_wider (IsInRow (header_page g slot) 1) (IsIn (slot_region g slot)) old new (λ n row. (omega (arith, row.from), omega (arith, row.below))) only

-- ---- a seal

pub area_total : (g : Geometry) (slot : Slot) (kind : ImageKind) → area_start g slot kind + area_pages g kind ≤ total_pages g
area_total g A Zbi = omega arith
area_total g A Vbmeta = omega arith
area_total g B Zbi = omega arith
area_total g B Vbmeta = omega arith
area_total g R Zbi = omega arith
area_total g R Vbmeta = omega arith

pub header_total : (g : Geometry) (slot : Slot) → header_page g slot < total_pages g
header_total g A = omega arith
header_total g B = omega arith
header_total g R = omega arith

-- what was written of the image and settled by a sync behind the header
image_done : (g : Geometry) (slot : Slot) (kind : ImageKind) (bytes : List ℕ) (sum : ImageSum) (count : ℕ) (old new : Option Past) → total_pages g ≤ count → image_sum bytes ≡ sum → IsFilled old g slot kind bytes → SettlesOthers old new (IsInRow (header_page g slot) 1) count → EachImage new (HasImage g slot kind sum)
image_done g slot kind bytes sum count old new room are filled others =
    settled_image g slot kind bytes sum new filled.room are
    (λ i lt. others (area_start g slot kind + i) (page_of bytes i) (omega (arith, lt, filled.room, area_total g slot kind, room)) (λ row. omega (arith, row.below, area_behind g slot kind)) (filled.written i lt))

-- A page that names the system is settled as the header, and the images with it.
pub seal_done : (g : Geometry) (slot : Slot) (sys : Sys) (images : Images) (page : Page) (count : ℕ) (old new : Option Past) → total_pages g ≤ count → IsHeader page sys → AreOf sys images → AreFilled old g slot images → SettlesOthers old new (IsInRow (header_page g slot) 1) count → IsSettled new (header_page g slot) page → EachImage new (HasSystem g slot sys)
seal_done g slot sys images page count old new room is are filled others header =
    let Zbis : Pages → Type 0 = HasImage g slot Zbi sys.zbi in
    let Vbmetas : Pages → Type 0 = HasImage g slot Vbmeta sys.vbmeta in
    let Heads : Pages → Type 0 = λ image. page_at image (header_page g slot) ≡ page in
    each_weaker (λ image. Heads image × (Zbis image × Vbmetas image)) (HasSystem g slot sys) new
    (λ image has. record { header = subst (λ (p : Page). IsHeader p sys) (sym has.0) is; zbi = has.1.0; vbmeta = has.1.1 })
    (each_both Heads (λ image. Zbis image × Vbmetas image) new header
    (each_both Zbis Vbmetas new (image_done g slot Zbi images.zbi sys.zbi count old new room are.zbi filled.zbi others) (image_done g slot Vbmeta images.vbmeta sys.vbmeta count old new room are.vbmeta filled.vbmeta others)))

-- ---- the acts

-- a write and a sync, as a list of acts
pub two_acts : (told : Option Past) (a b : DiskAct) → with_act (with_act told a) b ≡ with_acts told (a ∷ b ∷ [])
two_acts None a b = refl
two_acts (Some past) a b = ap (λ (trail : List DiskAct). let p : Past = record { start = past.start; trail = trail } in Some p) (append_assoc past.trail (a ∷ []) (b ∷ []))
