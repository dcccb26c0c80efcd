-- The regions of an image, one behind the other.
use Rattle.std.specs.Prelude.{ℕ, ◌≡◌, ◌+◌, ◌*◌, ◌/◌, ◌%◌, ◌<◌, ◌≤◌, Bool, true, false, List, [], ◌∷◌}
use Rattle.abr_record.specs.declared.Slot.{Slot}
use Rattle.abr_record.specs.declared.Slot.TheVariants.{A, B, R}
use Rattle.image_layout.specs.declared.geometry.Geometry.{Geometry}
use Rattle.image_layout.specs.declared.geometry.TheConstants.{SUPER_PAGE, RECORD_PAGE, SELECTOR_PAGE, VBMETA_PAGES}

-- each number is within its limits
pub record IsWithinLimits (g : Geometry) : Type 0 where
  pub blobs_least : 64 ≤ g.blobs
  pub blobs_most : g.blobs ≤ 8192
  pub blobs_step : g.blobs % 64 ≡ 0
  pub data_least : 1024 ≤ g.data_pages
  pub data_most : g.data_pages ≤ 65536
  pub data_step : g.data_pages % 1024 ≡ 0
  pub slot_least : 1 ≤ g.slot_pages
  pub slot_most : g.slot_pages ≤ 8192

-- the pages of a copy of the table, and of a slot
abbrev pub table_pages : Geometry → ℕ
table_pages g = g.blobs / 64 + g.data_pages / 1024

abbrev pub slot_size : Geometry → ℕ
slot_size g = 1 + g.slot_pages + VBMETA_PAGES

-- where the regions behind the first three pages begin
abbrev pub table_start : Geometry → Bool → ℕ
table_start g false = 3
table_start g true = 3 + table_pages g

abbrev pub slot_start : Geometry → Slot → ℕ
slot_start g A = 3 + 2 * table_pages g
slot_start g B = 3 + 2 * table_pages g + slot_size g
slot_start g R = 3 + 2 * table_pages g + 2 * slot_size g

abbrev pub data_start : Geometry → ℕ
data_start g = 3 + 2 * table_pages g + 3 * slot_size g

abbrev pub total_pages : Geometry → ℕ
total_pages g = data_start g + g.data_pages

-- pages in a row
pub record Region : Type 0 where
  pub first : ℕ
  pub size : ℕ

abbrev pub IsIn : Region → ℕ → Type 0
IsIn region n = (region.first ≤ n) × (n < region.first + region.size)

abbrev pub page_region : ℕ → Region
page_region n = record { first = n; size = 1 }

abbrev pub table_region : Geometry → Bool → Region
table_region g second = record { first = table_start g second; size = table_pages g }

abbrev pub slot_region : Geometry → Slot → Region
slot_region g slot = record { first = slot_start g slot; size = slot_size g }

abbrev pub data_region : Geometry → Region
data_region g = record { first = data_start g; size = g.data_pages }

-- super page, record page, selector page, the two copies of the table, the three slots, the data
abbrev pub regions : Geometry → List Region
regions g =
    page_region SUPER_PAGE ∷ page_region RECORD_PAGE ∷ page_region SELECTOR_PAGE
    ∷ table_region g false ∷ table_region g true
    ∷ slot_region g A ∷ slot_region g B ∷ slot_region g R
    ∷ data_region g ∷ []
