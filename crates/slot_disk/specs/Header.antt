-- What the header of a slot says, and what the record page says.
use Rattle.std.specs.Prelude.{ℕ, ◌≡◌, ◌+◌, ◌^◌, ◌<◌, List, ◌++◌, length, take, slice_range, codes, unwrap_or}
use Rattle.std.specs.Int.{w64, to_le_bytes}
use Rattle.sha2.specs.Sha256.{sha256}
use Rattle.pkg_names.specs.Numbers.{number_at}
use Rattle.abr_record.specs.declared.Record.{Record}
use Rattle.abr_record.specs.Bytes.{decoded}
use Rattle.abr_record.specs.Marks.{initial_record}
use Rattle.disk_model.specs.Past.{Page}
use Rattle.image_layout.specs.declared.ImageSum.{ImageSum}
use Rattle.image_layout.specs.declared.Sys.{Sys}

-- the length and the SHA-256 of an image, at this place of a page
abbrev pub sum_at : Page → ℕ → ImageSum
sum_at page at = record { len = number_at w64 page at; sha = slice_range page (at + 8) (at + 40) }

-- the system that a header names: epoch, root of the system package, and the sums of zbi and vbmeta
abbrev pub sys_at : Page → Sys
sys_at page = record {
  system = record { 0 = slice_range page 12 44 };
  epoch = number_at w64 page 4;
  zbi = sum_at page 44;
  vbmeta = sum_at page 84;
}

-- the page begins with the magic, and the digest behind the sums is that of all before it
pub record IsMarked (page : Page) : Type 0 where
  pub magic : take 4 page ≡ codes "SLOT"
  pub digest : slice_range page 124 156 ≡ sha256 (take 124 page)

-- the page is a header that names this system
pub record IsHeader (page : Page) (sys : Sys) : Type 0 where
  pub marked : IsMarked page
  pub names : sys ≡ sys_at page

-- the bytes of a header in front of its digest
unfoldable pub sum_text : ImageSum → List ℕ
sum_text sum = to_le_bytes w64 sum.len ++ sum.sha

unfoldable pub header_text : Sys → List ℕ
header_text sys =
    (codes "SLOT" ++ to_le_bytes w64 sys.epoch ++ sys.system.0) ++ (sum_text sys.zbi ++ sum_text sys.vbmeta)

-- a sum and a system as a program has them
pub record IsSum (sum : ImageSum) : Type 0 where
  pub len : sum.len < 2 ^ 64
  pub sha : length sum.sha ≡ 32

pub record IsSys (sys : Sys) : Type 0 where
  pub epoch : sys.epoch < 2 ^ 64
  pub system : length sys.system.0 ≡ 32
  pub zbi : IsSum sys.zbi
  pub vbmeta : IsSum sys.vbmeta

-- The record that the record page has: the first 32 bytes are looked at, and what can't be read is the
-- initial record.
abbrev pub record_on : Page → Record
record_on page = unwrap_or (decoded (take 32 page)) initial_record
