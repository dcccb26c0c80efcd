-- What the steps of loading and of writing leave.
use Rattle.std.specs.Prelude.{⊤, ◌≡◌, Bool, true, false, Option, Some, None, IsSomeAnd}
use Rattle.abr_record.specs.declared.Slot.{Slot}
use Rattle.disk_model.specs.Past.{Page, Pages, Past}
use Rattle.image_layout.specs.declared.geometry.Geometry.{Geometry}
use Rattle.image_layout.specs.declared.Sys.{Sys}
use Rattle.slot_disk.specs.Header.{IsHeader}
use Rattle.disk_model.specs.Images.{SomeImage}
use Rattle.slot_disk.specs.declared.answers.SlotFault.{SlotFault}
use Rattle.slot_disk.specs.declared.answers.SlotFault.TheVariants.{Read, Damaged}
use Rattle.slot_disk.specs.declared.load.Loaded.{Loaded}
use Rattle.slot_disk.specs.Slots.{SlotsView, HasSystem, IsGood}

-- what a page names as a header: this system, or none
abbrev pub Heads : Page → Option Sys → Type 0
Heads page (Some sys) = IsHeader page sys
Heads page None = (sys : Sys) → IsHeader page sys → ⊥

-- the slot has this system, or isn't good
abbrev pub Stands : Geometry → Slot → Option Sys → Pages → Type 0
Stands g slot (Some sys) image = HasSystem g slot sys image
Stands g slot None image = IsGood g slot image → ⊥

-- the answer of a test
abbrev pub Says : Bool → (Pages → Type 0) → Pages → Type 0
Says true P image = P image
Says false P image = P image → ⊥

-- where a slot is needed, this system of it was found
abbrev pub FoundIf : Bool → Geometry → Slot → Option Sys → Pages → Type 0
FoundIf needed g slot found image = needed ≡ true → IsSomeAnd found (λ sys. HasSystem g slot sys image)

-- why a slot was not loaded
abbrev pub HasCauseAt : Option Past → Geometry → Slot → Bool → SlotFault → Type 0
HasCauseAt told g slot needed Read = ⊤
HasCauseAt told g slot needed (Damaged bad) =
    (bad ≡ slot) × (needed ≡ true) × SomeImage told (λ image. IsGood g slot image → ⊥)

-- what was loaded, as a value
abbrev pub loaded_view : Geometry → Loaded → SlotsView
loaded_view g loaded = record {
  geometry = g;
  boot = loaded.boot;
  a = loaded.a;
  b = loaded.b;
  recovery = loaded.recovery;
  broken = false;
}
