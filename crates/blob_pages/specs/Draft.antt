-- What a draft has of the blob that comes.
use Rattle.std.specs.Prelude.{⊤, IsSome, ◌%◌, ℕ, ◌≡◌, ◌≢◌, ◌+◌, ◌*◌, ◌<◌, ◌≤◌, nat_le, List, length, drop, Option, Some, None, if◌then◌else◌, Vec, vec_len, vec_capacity}
use Rattle.std.specs.declared.alloc.Global.{Global}
use Rattle.pkg_names.specs.declared.root.Root.{Root}
use Rattle.pkg_merkle.specs.declared.hasher.Hasher.{Hasher}
use Rattle.pkg_merkle.specs.declared.hasher.TheConstants.{BYTES_LIMIT}
use Rattle.pkg_merkle.specs.Hasher.{StandsFor, byte_count}
use Rattle.pkg_merkle.specs.Merkle.{merkle_root}
use Rattle.blob_pages.specs.declared.draft.TheConstants.{PAGE_SIZE, KEPT_LIMIT}
use Rattle.blob_pages.specs.declared.draft.DraftEnd.{DraftEnd}
use Rattle.blob_pages.specs.declared.draft.DraftEnd.TheVariants.{Whole, Short, Wrong}
use Rattle.blob_pages.specs.Pages.{open_page}
use Rattle.blob_pages.specs.Room.{room_for}

-- A draft: the declared root and length, the hasher of the bytes that came, how many pages of them were
-- passed, the bytes behind these pages, and all bytes where the draft keeps them.
pub record Progress : Type 0 where
  pub root : Root
  pub len : ℕ
  pub hasher : Hasher
  pub pages : ℕ
  pub rest : List ℕ
  pub kept : Option (List ℕ)

-- all bytes of a blob whose length is within the limit
abbrev pub kept_of : ℕ → List ℕ → Option (List ℕ)
kept_of len bytes = if nat_le len KEPT_LIMIT then Some bytes else None

-- how many bytes came
abbrev pub have : Progress → ℕ
have draft = byte_count draft.hasher

-- these bytes came so far
pub record IsDraftOf (draft : Progress) (blob : List ℕ) : Type 0 where
  pub hashed : StandsFor draft.hasher blob
  pub within : PAGE_SIZE * draft.pages ≤ length blob
  pub rest : draft.rest ≡ drop (PAGE_SIZE * draft.pages) blob
  pub kept : draft.kept ≡ kept_of draft.len blob

-- each page that is full was passed
abbrev pub HasNoFullPage : Progress → Type 0
HasNoFullPage draft = length draft.rest < PAGE_SIZE

-- what comes of a draft of these bytes
abbrev pub EndsAs : Progress → List ℕ → DraftEnd → Type 0
EndsAs draft blob (Short have) = (length blob < draft.len) × (have ≡ length blob)
EndsAs draft blob (Wrong got) = (length blob ≡ draft.len) × (got ≡ merkle_root blob) × (got ≢ draft.root)
EndsAs draft blob (Whole whole) =
    (length blob ≡ draft.len) × (draft.root ≡ merkle_root blob) × (whole.open ≡ open_page blob)
    × (whole.kept ≡ kept_of draft.len blob)

-- a page is left to be written only where the blob doesn't end with a full one
abbrev pub LeavesOpen : ℕ → DraftEnd → Type 0
LeavesOpen len (Short have) = ⊤
LeavesOpen len (Wrong got) = ⊤
LeavesOpen len (Whole whole) = IsSome whole.open → 0 < len % PAGE_SIZE

-- what contracts see of the fields of a draft
abbrev pub progress : Root → ℕ → Hasher → ℕ → List ℕ → ℕ → Progress
progress root len hasher pages tail from = record {
  root = root;
  len = len;
  hasher = hasher;
  pages = pages;
  rest = drop from tail;
  kept = kept_of len tail;
}

-- The tail has the last bytes that came, from within the pages that were passed on; all of them where the
-- draft keeps its bytes. It has room for what may come before more pages are passed.
pub record IsDraft (len : ℕ) (hasher : Hasher) (pages : ℕ) (tail : Vec ℕ Global) (from : ℕ) : Type 0 where
  pub limit : len ≤ BYTES_LIMIT
  pub most : byte_count hasher ≤ len
  pub count : byte_count hasher + from ≡ PAGE_SIZE * pages + vec_len tail
  pub within : from ≤ vec_len tail
  pub all : len ≤ KEPT_LIMIT → from ≡ PAGE_SIZE * pages
  pub room : room_for len ≤ vec_capacity tail
