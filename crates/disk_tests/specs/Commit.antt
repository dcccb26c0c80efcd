-- What a disk stands for that has two copies of a table, and whose page 0 tells which of them counts.
use Rattle.std.specs.Prelude.{ℕ, ◌≡◌, ◌+◌, ◌<◌, ◌==◌, if◌then◌else◌, length, slice_index}
use Rattle.disk_model.specs.Past.{Pages, page_at}

-- the number in the first byte of page 0
abbrev pub choice : Pages → ℕ
choice image = slice_index (page_at image 0) 0

-- the first page of copy 1 and of copy 2, of this many pages each
abbrev pub first_of : ℕ → ℕ → ℕ
first_of copy count = if copy == 1 then 1 else count + 1

-- these pages stand in a row, from the one numbered first
pub record HasRow (first : ℕ) (pages image : Pages) : Type 0 where
  pub each : (i : ℕ) → i < length pages → page_at image (first + i) ≡ page_at pages i

-- the copy that counts has these pages
abbrev pub IsTable : Pages → Pages → Type 0
IsTable pages image = HasRow (first_of (choice image) (length pages)) pages image
