-- The super page.
use Rattle.std.specs.Prelude.{ℕ, ◌≡◌, ◌≢◌, ◌≤◌, List, ◌++◌, take, slice_range, codes, replicate, Result, Ok, Err}
use Rattle.std.specs.Int.{w32, to_le_bytes}
use Rattle.sha2.specs.Sha256.{sha256}
use Rattle.pkg_names.specs.Numbers.{number_at}
use Rattle.image_layout.specs.declared.geometry.Geometry.{Geometry}
use Rattle.image_layout.specs.declared.super_page.SuperFault.{SuperFault}
use Rattle.image_layout.specs.declared.super_page.SuperFault.TheVariants.{NotAnImage, Layout, Size}
use Rattle.image_layout.specs.Geometry.{IsWithinLimits, total_pages}

-- the bytes of a super page: the magic, the layout, the three numbers, and the digest of all these
abbrev pub super_text : Geometry → List ℕ
super_text g =
    codes "FPKGIMG1" ++ to_le_bytes w32 1
    ++ to_le_bytes w32 g.blobs ++ to_le_bytes w32 g.data_pages ++ to_le_bytes w32 g.slot_pages

abbrev pub IsSuper : List ℕ → Geometry → Type 0
IsSuper page g = take 56 page ≡ super_text g ++ sha256 (super_text g)

-- the numbers of a page
abbrev pub geometry_at : List ℕ → Geometry
geometry_at page = record {
  blobs = number_at w32 page 12;
  data_pages = number_at w32 page 16;
  slot_pages = number_at w32 page 20;
}

-- a page of zeros
unfoldable pub zero_page : List ℕ
zero_page = replicate 4096 0

-- magic and digest are right
pub record IsMarked (page : List ℕ) : Type 0 where
  pub magic : take 8 page ≡ codes "FPKGIMG1"
  pub digest : slice_range page 24 56 ≡ sha256 (take 24 page)

-- the geometry is within its limits and has room on the disk
pub record HasRoom (g : Geometry) (pages : ℕ) : Type 0 where
  pub limits : IsWithinLimits g
  pub total : total_pages g ≤ pages

-- what a super page is judged to be, the first fault first
abbrev pub Judges : List ℕ → ℕ → Result Geometry SuperFault → Type 0
Judges page pages (Ok g) = IsMarked page × (number_at w32 page 8 ≡ 1) × (g ≡ geometry_at page) × HasRoom g pages
Judges page pages (Err NotAnImage) = IsMarked page → ⊥
Judges page pages (Err (Layout found)) = IsMarked page × (found ≡ number_at w32 page 8) × (found ≢ 1)
Judges page pages (Err Size) = IsMarked page × (number_at w32 page 8 ≡ 1) × (HasRoom (geometry_at page) pages → ⊥)
