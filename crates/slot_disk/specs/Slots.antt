-- The record and the slots of an image, and what the calls make of them.
use Rattle.std.specs.Prelude.{ℕ, ◌≡◌, ◌⊎◌, ◌≤◌, ⊤, Bool, true, false, List, [], ◌∷◌, replicate, Option, Some, None, is_some, IsSomeAnd}
use Rattle.sha2.specs.Sha256.{sha256}
use Rattle.abr_record.specs.declared.Slot.{Slot}
use Rattle.abr_record.specs.declared.Slot.TheVariants.{A, B, R}
use Rattle.abr_record.specs.declared.Record.{Record}
use Rattle.abr_record.specs.Boot.{is_bootable}
use Rattle.disk_model.specs.declared.act.DiskAct.TheVariants.{Wrote, Synced}
use Rattle.disk_model.specs.Past.{Page, Pages, page_at, Past}
use Rattle.disk_model.specs.Images.{EachImage, SomeImage, with_acts}
use Rattle.image_layout.specs.declared.geometry.Geometry.{Geometry}
use Rattle.image_layout.specs.declared.geometry.TheConstants.{RECORD_PAGE}
use Rattle.image_layout.specs.declared.ImageKind.{ImageKind}
use Rattle.image_layout.specs.declared.ImageKind.TheVariants.{Zbi, Vbmeta}
use Rattle.image_layout.specs.declared.ImageSum.{ImageSum}
use Rattle.image_layout.specs.declared.Sys.{Sys}
use Rattle.image_layout.specs.Geometry.{IsIn, slot_region}
use Rattle.image_layout.specs.Sums.{image_sum}
use Rattle.slot_disk.specs.declared.answers.SlotFault.{SlotFault}
use Rattle.slot_disk.specs.declared.answers.SlotFault.TheVariants.{Read, Damaged}
use Rattle.slot_disk.specs.declared.answers.SlotEnd.{SlotEnd}
use Rattle.slot_disk.specs.declared.answers.SlotEnd.TheVariants.{Done, Broke}
use Rattle.slot_disk.specs.Areas.{header_page, area_size, image_bytes}
use Rattle.slot_disk.specs.Header.{IsHeader, record_on}

-- What slots are seen as: the geometry, the boot record, the system of each slot where it is known, and
-- whether a call has broken them, after which they can't be written.
pub record SlotsView : Type 0 where
  pub geometry : Geometry
  pub boot : Record
  pub a : Option Sys
  pub b : Option Sys
  pub recovery : Option Sys
  pub broken : Bool

abbrev pub sys_of : SlotsView → Slot → Option Sys
sys_of slots A = slots.a
sys_of slots B = slots.b
sys_of slots R = slots.recovery

abbrev pub with_sys : Slot → Sys → SlotsView → SlotsView
with_sys A sys slots = record slots { a = Some sys }
with_sys B sys slots = record slots { b = Some sys }
with_sys R sys slots = record slots { recovery = Some sys }

-- The slot has to be good: it can be booted by this record, or is recovery.
abbrev pub is_needed : Record → Slot → Bool
is_needed boot A = is_bootable boot.a
is_needed boot B = is_bootable boot.b
is_needed boot R = true

-- An image of this length and digest stands in its area.
pub record HasImage (g : Geometry) (slot : Slot) (kind : ImageKind) (sum : ImageSum) (image : Pages) : Type 0 where
  pub room : sum.len ≤ area_size g kind
  pub sha : sha256 (image_bytes g slot kind sum.len image) ≡ sum.sha

-- The slot has this system: its header names it, and both images are those that it tells of.
pub record HasSystem (g : Geometry) (slot : Slot) (sys : Sys) (image : Pages) : Type 0 where
  pub header : IsHeader (page_at image (header_page g slot)) sys
  pub zbi : HasImage g slot Zbi sys.zbi image
  pub vbmeta : HasImage g slot Vbmeta sys.vbmeta image

-- header and images of the slot are good
abbrev pub IsGood : Geometry → Slot → Pages → Type 0
IsGood g slot image = (sys : Sys) × HasSystem g slot sys image

-- the record page has this record
abbrev pub HasRecord : Record → Pages → Type 0
HasRecord boot image = record_on (page_at image RECORD_PAGE) ≡ boot

-- each slot that this record needs has the system that is known of it
abbrev pub HasNeeded : SlotsView → Record → Pages → Type 0
HasNeeded slots boot image =
    (slot : Slot) → is_needed boot slot ≡ true
    → IsSomeAnd (sys_of slots slot) (λ sys. HasSystem slots.geometry slot sys image)

-- the image has the record of this value, and the system of each slot that has to be good
pub record Has (slots : SlotsView) (image : Pages) : Type 0 where
  pub boot : HasRecord slots.boot image
  pub needed : HasNeeded slots slots.boot image

-- the slot is good if the image's record needs it, and it is needed and isn't good
abbrev pub IsGoodIfNeeded : Geometry → Slot → Pages → Type 0
IsGoodIfNeeded g slot image = is_needed (record_on (page_at image RECORD_PAGE)) slot ≡ true → IsGood g slot image

pub record IsBad (g : Geometry) (slot : Slot) (image : Pages) : Type 0 where
  pub needed : is_needed (record_on (page_at image RECORD_PAGE)) slot ≡ true
  pub bad : IsGood g slot image → ⊥

-- where an image's slots are damaged: at the first of R, A and B that has to be good and isn't
abbrev pub IsDamaged : Geometry → Slot → Pages → Type 0
IsDamaged g R image = IsBad g R image
IsDamaged g A image = IsGood g R image × IsBad g A image
IsDamaged g B image = IsGood g R image × IsGoodIfNeeded g A image × IsBad g B image

-- each image of the disk has the record and the slots of this value, where the disk tells its past
abbrev pub Fits : Option Past → SlotsView → Type 0
Fits told slots = EachImage told (Has slots)

-- all images of the disk have one record and the same slots
abbrev pub HaveOneView : Option Past → Geometry → Type 0
HaveOneView told g = (slots : SlotsView) × (slots.geometry ≡ g) × Fits told slots

-- a system is known of just the slots that have to be good
abbrev pub KnowsNeeded : SlotsView → Type 0
KnowsNeeded slots = (slot : Slot) → is_some (sys_of slots slot) ≡ is_needed slots.boot slot

-- why slots were not loaded
abbrev pub HasCause : Option Past → Geometry → SlotFault → Type 0
HasCause told g Read = ⊤
HasCause told g (Damaged slot) = SomeImage told (IsDamaged g slot)

-- this page was written once, with bytes that have P, and then synced; nothing else was done
abbrev pub SettlesPage : ℕ → (Page → Type 0) → Option Past → Option Past → Type 0
SettlesPage n P old new = (page : Page) × P page × (new ≡ with_acts old (Wrote n page ∷ Synced ∷ []))

-- the pages that say what is seen of these slots: the record page, and each slot that has to be good
abbrev pub IsSlotsPage : SlotsView → ℕ → Type 0
IsSlotsPage slots n =
    (n ≡ RECORD_PAGE)
    ⊎ ((slot : Slot) × (is_needed slots.boot slot ≡ true) × IsIn (slot_region slots.geometry slot) n)

-- the value with another record, and the value that a call has broken
abbrev pub with_boot : Record → SlotsView → SlotsView
with_boot boot slots = record slots { boot = boot }

abbrev pub with_broken : SlotsView → SlotsView
with_broken slots = record slots { broken = true }

-- the value after a change of the record that gave this answer, and after recovery was written
abbrev pub after_record : SlotsView → Record → SlotEnd → SlotsView
after_record slots boot Done = with_boot boot slots
after_record slots boot Broke = with_broken slots

abbrev pub after_recovery : SlotsView → Sys → SlotEnd → SlotsView
after_recovery slots sys Done = with_sys R sys slots
after_recovery slots sys Broke = with_broken slots

-- the system of recovery: no system package, epoch 0, and these images
abbrev pub recovery_system : List ℕ → List ℕ → Sys
recovery_system zbi vbmeta = record {
  system = record { 0 = replicate 32 0 };
  epoch = 0;
  zbi = image_sum zbi;
  vbmeta = image_sum vbmeta;
}

-- slots of which nothing is known but the record
abbrev pub new_slots : Geometry → Record → SlotsView
new_slots g boot = record { geometry = g; boot = boot; a = None; b = None; recovery = None; broken = false }
