-- Slots of an image whose systems are whole.
use Rattle.std.specs.Prelude.{◌≡◌, ◌≢◌, true, List, IsSomeAnd}
use Rattle.pkg_names.specs.declared.root.Root.{Root}
use Rattle.pkg_names.specs.declared.pinned.Pinned.{Pinned}
use Rattle.abr_record.specs.declared.Slot.{Slot}
use Rattle.abr_record.specs.declared.Slot.TheVariants.{R}
use Rattle.disk_model.specs.Past.{Pages}
use Rattle.image_layout.specs.declared.geometry.Geometry.{Geometry}
use Rattle.image_layout.specs.declared.Sys.{Sys}
use Rattle.system_lists.specs.Judging.{judged}
use Rattle.system_lists.specs.Judging.Verdict.{Whole}
use Rattle.slot_disk.specs.Slots.{SlotsView, sys_of, is_needed, HasSystem, Has}
use Rattle.boot_core.specs.declared.looking.SeenBlob.{SeenBlob}
use Rattle.boot_core.specs.Look.{stock_of}
use Rattle.boot_core.specs.Seen.{hand_of}

-- the system with this package is whole by the stored blobs, with these packages
pub record IsWholeSystem (all : List SeenBlob) (system : Root) : Type 0 where
  pub base : List Pinned
  pub cached : List Pinned
  pub is : judged (hand_of all (stock_of all)) system ≡ Whole base cached

-- a slot of an image is whole: its pages are good for this system, and that is whole by the stored blobs
pub record IsWhole (g : Geometry) (slot : Slot) (sys : Sys) (all : List SeenBlob) (image : Pages) : Type 0 where
  pub pages : HasSystem g slot sys image
  pub system : IsWholeSystem all sys.system

-- what safety asks of the slots of an image: it has these slots, and A and B are whole where they can boot
pub record HasWholeSlots (slots : SlotsView) (all : List SeenBlob) (image : Pages) : Type 0 where
  pub has : Has slots image
  pub whole : (slot : Slot) → slot ≢ R → is_needed slots.boot slot ≡ true
      → IsSomeAnd (sys_of slots slot) (λ sys. IsWholeSystem all sys.system)

-- the slot is recovery with good pages, or is whole
abbrev pub IsRecoveryOrWhole : SlotsView → List SeenBlob → Slot → Pages → Type 0
IsRecoveryOrWhole slots all R image = IsSomeAnd slots.recovery (λ sys. HasSystem slots.geometry R sys image)
IsRecoveryOrWhole slots all slot image =
    IsSomeAnd (sys_of slots slot) (λ sys. IsWhole slots.geometry slot sys all image)
