-- What a filling has of the images that come.
use Rattle.std.specs.Prelude.{ℕ, ◌≡◌, ◌≢◌, ◌+◌, ◌-◌, ◌*◌, ◌/◌, ◌≤◌, Bool, true, List, [], ◌++◌, length, take, drop, replicate, Option, Some, None}
use Rattle.sha2.specs.Hashers.{Holds256}
use Rattle.abr_record.specs.declared.Slot.{Slot}
use Rattle.disk_model.specs.Past.{Page, Past}
use Rattle.disk_model.specs.Images.{AllWritten}
use Rattle.image_layout.specs.declared.geometry.Geometry.{Geometry}
use Rattle.image_layout.specs.declared.ImageKind.{ImageKind}
use Rattle.image_layout.specs.declared.ImageKind.TheVariants.{Zbi, Vbmeta}
use Rattle.image_layout.specs.declared.ImageSum.{ImageSum}
use Rattle.image_layout.specs.declared.Sys.{Sys}
use Rattle.image_layout.specs.Sums.{image_sum}
use Rattle.slot_disk.specs.declared.part.Part.{Part}
use Rattle.slot_disk.specs.declared.part.Parts.{Parts}
use Rattle.slot_disk.specs.declared.part.Difference.{Difference}
use Rattle.slot_disk.specs.declared.answers.SlotEnd.{SlotEnd}
use Rattle.slot_disk.specs.declared.answers.SlotEnd.TheVariants as end
use Rattle.slot_disk.specs.declared.answers.SealEnd.{SealEnd}
use Rattle.slot_disk.specs.declared.answers.SealEnd.TheVariants.{Sealed, Differs, Broke}
use Rattle.slot_disk.specs.Areas.{area_start, area_size}
use Rattle.slot_disk.specs.Slots.{SlotsView, with_sys}

-- A filling: the slot that is filled, what came of its two images, and whether a call has broken it.
pub record FillingView : Type 0 where
  pub slot : Slot
  pub parts : Parts
  pub broken : Bool

abbrev pub part_of : Parts → ImageKind → Part
part_of parts Zbi = parts.zbi
part_of parts Vbmeta = parts.vbmeta

-- the bytes of the two images of a slot
pub record Images : Type 0 where
  pub zbi : List ℕ
  pub vbmeta : List ℕ

abbrev pub bytes_of : Images → ImageKind → List ℕ
bytes_of images Zbi = images.zbi
bytes_of images Vbmeta = images.vbmeta

-- a piece behind the bytes of one image
abbrev pub with_piece : ImageKind → List ℕ → Images → Images
with_piece Zbi piece images = record images { zbi = images.zbi ++ piece }
with_piece Vbmeta piece images = record images { vbmeta = images.vbmeta ++ piece }

-- the part of the other image is as it was
abbrev pub OtherStays : ImageKind → Parts → Parts → Type 0
OtherStays Zbi old new = new.vbmeta ≡ old.vbmeta
OtherStays Vbmeta old new = new.zbi ≡ old.zbi

-- these bytes with zeros behind them up to a page, and page i of an image
unfoldable pub filled : List ℕ → Page
filled bytes = bytes ++ replicate (4096 - length bytes) 0

abbrev pub page_of : List ℕ → ℕ → Page
page_of bytes i = filled (take 4096 (drop (4096 * i) bytes))

-- how many pages of an image of this length have a byte
abbrev pub page_count : ℕ → ℕ
page_count len = (len + 4095) / 4096

-- These bytes of an image came: they were counted and hashed, and the page that is written next has those
-- behind the last full page, with zeros behind them.
pub record HoldsBytes (part : Part) (bytes : List ℕ) : Type 0 where
  pub count : part.len ≡ length bytes
  pub hashed : Holds256 part.hasher bytes
  pub next : part.next ≡ page_of bytes (length bytes / 4096)

-- these bytes came of the two images
pub record HoldsImages (parts : Parts) (images : Images) : Type 0 where
  pub zbi : HoldsBytes parts.zbi images.zbi
  pub vbmeta : HoldsBytes parts.vbmeta images.vbmeta

abbrev pub IsFillingOf : FillingView → Images → Type 0
IsFillingOf filling images = HoldsImages filling.parts images

-- none came yet
abbrev pub no_images : Images
no_images = record { zbi = []; vbmeta = [] }

-- each page of the image that has a byte is written, from this page of the disk on
abbrev pub AreWritten : Option Past → ℕ → List ℕ → Type 0
AreWritten told first bytes = AllWritten told (λ i. first + i) (page_of bytes) (page_count (length bytes))

-- an image of these bytes fits its area, and is written there
pub record IsFilled (told : Option Past) (g : Geometry) (slot : Slot) (kind : ImageKind) (bytes : List ℕ) : Type 0 where
  pub room : length bytes ≤ area_size g kind
  pub written : AreWritten told (area_start g slot kind) bytes

-- both images are
pub record AreFilled (told : Option Past) (g : Geometry) (slot : Slot) (images : Images) : Type 0 where
  pub zbi : IsFilled told g slot Zbi images.zbi
  pub vbmeta : IsFilled told g slot Vbmeta images.vbmeta

-- the filling after an append that gave this answer, where these parts came of it
abbrev pub after_append : FillingView → Parts → SlotEnd → FillingView
after_append filling parts end.Done = record filling { parts = parts }
after_append filling parts end.Broke = record filling { broken = true }

-- the images are those that a system tells of
pub record AreOf (sys : Sys) (images : Images) : Type 0 where
  pub zbi : image_sum images.zbi ≡ sys.zbi
  pub vbmeta : image_sum images.vbmeta ≡ sys.vbmeta

-- This image, zbi before vbmeta, is the first whose length or digest is another than the system's, and has
-- this length and digest.
abbrev pub DiffersFirst : Sys → Images → ImageKind → ImageSum → Type 0
DiffersFirst sys images Zbi got = (got ≡ image_sum images.zbi) × (got ≢ sys.zbi)
DiffersFirst sys images Vbmeta got =
    (image_sum images.zbi ≡ sys.zbi) × (got ≡ image_sum images.vbmeta) × (got ≢ sys.vbmeta)

-- what is found of these images: the first that differs, or that both are the system's
abbrev pub Finds : Sys → Images → Option Difference → Type 0
Finds sys images None = AreOf sys images
Finds sys images (Some found) = DiffersFirst sys images found.image found.got

-- what sealing answers of these images; the disk may fail where both are the system's
abbrev pub Judges : Sys → Images → SealEnd → Type 0
Judges sys images Sealed = AreOf sys images
Judges sys images (Differs kind got) = DiffersFirst sys images kind got
Judges sys images Broke = AreOf sys images

-- slots and filling after sealing gave this answer
abbrev pub after_seal : SlotsView → Slot → Sys → SealEnd → SlotsView
after_seal slots slot sys Sealed = with_sys slot sys slots
after_seal slots slot sys (Differs kind got) = slots
after_seal slots slot sys Broke = record slots { broken = true }

abbrev pub filling_after_seal : FillingView → SealEnd → FillingView
filling_after_seal filling Sealed = filling
filling_after_seal filling (Differs kind got) = filling
filling_after_seal filling Broke = record filling { broken = true }
