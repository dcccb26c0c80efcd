-- Where the parts of a slot lie: its header, and the areas of its two images.
use Rattle.std.specs.Prelude.{ℕ, ◌+◌, ◌*◌, List, take}
use Rattle.std.specs.List.{flat_map, range_with_len}
use Rattle.abr_record.specs.declared.Slot.{Slot}
use Rattle.disk_model.specs.Past.{Pages, page_at}
use Rattle.image_layout.specs.declared.geometry.Geometry.{Geometry}
use Rattle.image_layout.specs.declared.geometry.TheConstants.{VBMETA_PAGES}
use Rattle.image_layout.specs.declared.ImageKind.{ImageKind}
use Rattle.image_layout.specs.declared.ImageKind.TheVariants.{Zbi, Vbmeta}
use Rattle.image_layout.specs.Geometry.{Region, slot_start}

-- the page of a slot's header
abbrev pub header_page : Geometry → Slot → ℕ
header_page g slot = slot_start g slot

-- the areas behind it: first that of the zbi, then that of the vbmeta
abbrev pub area_pages : Geometry → ImageKind → ℕ
area_pages g Zbi = g.slot_pages
area_pages g Vbmeta = VBMETA_PAGES

abbrev pub area_start : Geometry → Slot → ImageKind → ℕ
area_start g slot Zbi = slot_start g slot + 1
area_start g slot Vbmeta = slot_start g slot + 1 + g.slot_pages

abbrev pub area_region : Geometry → Slot → ImageKind → Region
area_region g slot kind = record { first = area_start g slot kind; size = area_pages g kind }

-- how many bytes an area has
abbrev pub area_size : Geometry → ImageKind → ℕ
area_size g kind = 4096 * area_pages g kind

-- the bytes of pages in a row, one page behind the other
unfoldable pub row_bytes : ℕ → ℕ → Pages → List ℕ
row_bytes first count image = flat_map (λ (i : ℕ). page_at image (first + i)) (range_with_len 0 count)

-- the bytes of an image of this length, which are the first of its area
abbrev pub image_bytes : Geometry → Slot → ImageKind → ℕ → Pages → List ℕ
image_bytes g slot kind len image = take len (row_bytes (area_start g slot kind) (area_pages g kind) image)
