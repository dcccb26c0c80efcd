-- What the calls of slots make of the images of a disk.
use Rattle.std.proofs.Common.{◌≡◌, ◌⊎◌, ℕ, Bool, true, false, List, replicate, ◌∙◌, ap, subst, inl, inr, arith, Option}
use Rattle.abr_record.specs.declared.Slot.{Slot}
use Rattle.abr_record.specs.declared.Record.{Record}
use Rattle.disk_model.specs.Past.{Pages, Past}
use Rattle.disk_model.specs.Images.{EachImage, AtEach, WritesOnly, IsInRow}
use Rattle.disk_model.proofs.Moments.{each_weaker, each_both, at_weaker, at_both, at_end}
use Rattle.disk_model.proofs.Regions.{outside, lasts_apart}
use Rattle.image_layout.specs.declared.geometry.Geometry.{Geometry}
use Rattle.image_layout.specs.declared.geometry.TheConstants.{RECORD_PAGE}
use Rattle.image_layout.specs.declared.ImageKind.{ImageKind}
use Rattle.image_layout.specs.declared.ImageSum.{ImageSum}
use Rattle.image_layout.specs.declared.Sys.{Sys}
use Rattle.image_layout.specs.Sums.{image_sum}
use Rattle.image_layout.specs.Geometry.{IsIn, slot_region}
use Rattle.slot_disk.specs.Areas.{area_region, header_page}
use Rattle.slot_disk.specs.Slots.{SlotsView, with_boot, with_sys, with_broken, is_needed, HasRecord, HasNeeded, Has, Fits, IsSlotsPage, recovery_system}
use Rattle.slot_disk.proofs.SystemLemmas.{slots_apart, behind_record, header_within, area_within}
use Rattle.slot_disk.proofs.Standing.{needed_depends, needed_boot, has_outside, has_with_sys, has_broken}

-- ---- the record

module _ (s : SlotsView) (value : Record) (old new : Option Past) (only : WritesOnly old new (IsInRow RECORD_PAGE 1)) where
  -- a change of the record leaves the slots that a record needs
  needed_stays : (boot : Record) → EachImage old (HasNeeded s boot) → AtEach old new (HasNeeded s boot)
  needed_stays boot each =
      outside (IsInRow RECORD_PAGE 1) (HasNeeded s boot) old new
      (lasts_apart (IsInRow RECORD_PAGE 1) (λ n. (slot : Slot) × IsIn (slot_region s.geometry slot) n) (HasNeeded s boot)
      (λ n row own. omega (arith, row.below, behind_record s.geometry own.0 n own.1))
      (λ image other size same has. needed_depends s boot image other (λ slot need n within. same n (slot, within)) has)) each only

  either : (image : Pages) → HasRecord s.boot image ⊎ HasRecord value image → HasNeeded s s.boot image → HasNeeded s value image → Has s image ⊎ Has (with_boot value s) image
  either image (inl boot) x y = inl (record { boot = boot; needed = x })
  either image (inr boot) x y = inr (record { boot = boot; needed = needed_boot s value value image y })

  pub record_views : Fits old s → EachImage old (HasNeeded s value) → AtEach old new (λ image. HasRecord s.boot image ⊎ HasRecord value image) → AtEach old new (λ image. Has s image ⊎ Has (with_boot value s) image)
  record_views fits needed records =
      let before = needed_stays s.boot (each_weaker (Has s) (HasNeeded s s.boot) old (λ image has. has.needed) fits) in
      let after = needed_stays value needed in
      let Records : Pages → Type 0 = λ image. HasRecord s.boot image ⊎ HasRecord value image in
      let Both : Pages → Type 0 = λ image. HasNeeded s s.boot image × HasNeeded s value image in
      at_weaker (λ image. Records image × Both image) (λ image. Has s image ⊎ Has (with_boot value s) image) old new
      (λ image all. either image all.0 all.1.0 all.1.1)
      (at_both Records Both old new records (at_both (HasNeeded s s.boot) (HasNeeded s value) old new before after))

  pub record_fits : EachImage old (HasNeeded s value) → EachImage new (HasRecord value) → Fits new (with_boot value s)
  record_fits needed done =
      each_weaker (λ image. HasRecord value image × HasNeeded s value image) (Has (with_boot value s)) new
      (λ image both. record { boot = both.0; needed = needed_boot s value value image both.1 })
      (each_both (HasRecord value) (HasNeeded s value) new done (at_end (HasNeeded s value) old new (needed_stays value needed)))

-- ---- a slot that isn't needed

clash : (b : Bool) → b ≡ true → b ≡ false → ⊥
clash b t f = cc

-- its pages are none of those that say what is seen of the slots
pub spare_apart : (s : SlotsView) (slot : Slot) (n : ℕ) → is_needed s.boot slot ≡ false → IsIn (slot_region s.geometry slot) n → IsSlotsPage s n → ⊥
spare_apart s slot n spare within (inl e) = omega (arith, e, behind_record s.geometry slot n within)
spare_apart s slot n spare within (inr own) =
    slots_apart s.geometry slot own.0 n
    (λ same. clash (is_needed s.boot own.0) own.1 (subst (λ (k : Slot). is_needed s.boot k ≡ false) same spare)) within own.2

pub append_stays : (s : SlotsView) (slot : Slot) (kind : ImageKind) (old new : Option Past) → is_needed s.boot slot ≡ false → Fits old s → WritesOnly old new (IsIn (area_region s.geometry slot kind)) → AtEach old new (Has s)
append_stays s slot kind old new spare fits only =
    has_outside (IsIn (area_region s.geometry slot kind)) s old new
    (λ n within own. spare_apart s slot n spare (area_within s.geometry slot kind n within.0 within.1) own) fits only

row_is : (first n : ℕ) → IsInRow first 1 n → first ≡ n
row_is first n row = omega (arith, row.from, row.below)

pub seal_stays : (s : SlotsView) (slot : Slot) (old new : Option Past) → is_needed s.boot slot ≡ false → Fits old s → WritesOnly old new (IsInRow (header_page s.geometry slot) 1) → AtEach old new (Has s)
seal_stays s slot old new spare fits only =
    has_outside (IsInRow (header_page s.geometry slot) 1) s old new
    (λ n row own. spare_apart s slot n spare (subst (IsIn (slot_region s.geometry slot)) (row_is (header_page s.geometry slot) n row) (header_within s.geometry slot)) own) fits only

pub seal_fits : (s : SlotsView) (slot : Slot) (sys : Sys) (old new : Option Past) → is_needed s.boot slot ≡ false → Fits old s → WritesOnly old new (IsInRow (header_page s.geometry slot) 1) → Fits new (with_sys slot sys s)
seal_fits s slot sys old new spare fits only =
    each_weaker (Has s) (Has (with_sys slot sys s)) new (λ image has. has_with_sys s slot sys image spare has)
    (at_end (Has s) old new (seal_stays s slot old new spare fits only))

pub broken_fits : (s : SlotsView) (slot : Slot) (old new : Option Past) → is_needed s.boot slot ≡ false → Fits old s → WritesOnly old new (IsInRow (header_page s.geometry slot) 1) → Fits new (with_broken s)
broken_fits s slot old new spare fits only =
    each_weaker (Has s) (Has (with_broken s)) new (λ image has. has_broken s image has)
    (at_end (Has s) old new (seal_stays s slot old new spare fits only))

-- ---- what was said of fields is said of values

pub area_same : (g h : Geometry) (slot other : Slot) (kind : ImageKind) (old new : Option Past) → g ≡ h → slot ≡ other → WritesOnly old new (IsIn (area_region g slot kind)) → WritesOnly old new (IsIn (area_region h other kind))
area_same g h slot other kind old new e f only =
    subst (λ (k : Geometry). WritesOnly old new (IsIn (area_region k other kind))) e (subst (λ (k : Slot). WritesOnly old new (IsIn (area_region g k kind))) f only)

pub header_same : (g h : Geometry) (slot other : Slot) (old new : Option Past) → g ≡ h → slot ≡ other → WritesOnly old new (IsInRow (header_page g slot) 1) → WritesOnly old new (IsInRow (header_page h other) 1)
header_same g h slot other old new e f only =
    subst (λ (k : Geometry). WritesOnly old new (IsInRow (header_page k other) 1)) e (subst (λ (k : Slot). WritesOnly old new (IsInRow (header_page g k) 1)) f only)

-- ---- recovery

pub recovery_is : (zbi vbmeta : List ℕ) (a b : ImageSum) → a ≡ image_sum zbi → b ≡ image_sum vbmeta → (let s : Sys = record { system = record { 0 = replicate 32 0 }; epoch = 0; zbi = a; vbmeta = b } in s) ≡ recovery_system zbi vbmeta
recovery_is zbi vbmeta a b e f =
    ap (λ (i : ImageSum). let s : Sys = record { system = record { 0 = replicate 32 0 }; epoch = 0; zbi = i; vbmeta = b } in s) e
    ∙ ap (λ (i : ImageSum). let s : Sys = record { system = record { 0 = replicate 32 0 }; epoch = 0; zbi = image_sum zbi; vbmeta = i } in s) f
