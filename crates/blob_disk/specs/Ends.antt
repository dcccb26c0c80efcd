-- Which answers tell that the disk failed, and what comes of a draft.
use Rattle.std.specs.Prelude.{ℕ, ◌≡◌, ◌≢◌, ◌<◌, ⊤, Bool, true, false, List, length}
use Rattle.pkg_merkle.specs.Merkle.{merkle_root}
use Rattle.blob_pages.specs.Draft.{Progress, kept_of}
use Rattle.blob_disk.specs.declared.answers.WriteEnd.{WriteEnd}
use Rattle.blob_disk.specs.declared.answers.WriteEnd.TheVariants.{Written, Broke}
use Rattle.blob_disk.specs.declared.answers.PutEnd.{PutEnd}
use Rattle.blob_disk.specs.declared.answers.PutEnd.TheVariants as put
use Rattle.blob_disk.specs.declared.answers.LandEnd.{LandEnd}
use Rattle.blob_disk.specs.declared.answers.LandEnd.TheVariants as land

abbrev pub is_broke : WriteEnd → Bool
is_broke Written = false
is_broke Broke = true

abbrev pub put_broke : PutEnd → Bool
put_broke put.Taken = false
put_broke (put.Long len) = false
put_broke put.Broke = true

-- What the end of a draft answers whose bytes are these: too few came; as many came, with another root; or
-- the blob is stored, and its bytes are those that were kept. The disk may fail where all came.
abbrev pub EndsLand : Progress → List ℕ → LandEnd → Type 0
EndsLand draft blob (land.Short have) = (length blob < draft.len) × (have ≡ length blob)
EndsLand draft blob (land.Wrong got) = (length blob ≡ draft.len) × (got ≡ merkle_root blob) × (got ≢ draft.root)
EndsLand draft blob (land.Landed kept) =
    (length blob ≡ draft.len) × (draft.root ≡ merkle_root blob) × (kept ≡ kept_of draft.len blob)
EndsLand draft blob land.Broke = (length blob ≡ draft.len) × (draft.root ≡ merkle_root blob)

-- no blob came of the draft
abbrev pub IsRefused : LandEnd → Type 0
IsRefused (land.Short have) = ⊤
IsRefused (land.Wrong got) = ⊤
IsRefused (land.Landed kept) = ⊥
IsRefused land.Broke = ⊥

-- the blob is stored
abbrev pub IsLanded : LandEnd → Type 0
IsLanded (land.Short have) = ⊥
IsLanded (land.Wrong got) = ⊥
IsLanded (land.Landed kept) = ⊤
IsLanded land.Broke = ⊥

-- the disk failed
abbrev pub IsBroke : LandEnd → Type 0
IsBroke (land.Short have) = ⊥
IsBroke (land.Wrong got) = ⊥
IsBroke (land.Landed kept) = ⊥
IsBroke land.Broke = ⊤
