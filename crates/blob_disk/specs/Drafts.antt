-- What contracts see of the blobs of a disk, and of their drafts.
use Rattle.std.specs.Prelude.{Vec, vec_capacity, ◌≤◌, ℕ, ◌≡◌, ◌-◌, ◌==◌, nat_lt, Bool, true, false, List, [], ◌++◌, length, Option, Some, None, if◌then◌else◌}
use Rattle.pkg_names.specs.declared.root.Root.{Root}
use Rattle.disk_model.specs.Past.{Past}
use Rattle.image_layout.specs.Geometry.{data_start}
use Rattle.node_table.specs.declared.entry.Entry.{Entry}
use Rattle.node_table.specs.declared.entry.TheConstants.{BLOB_LIMIT}
use Rattle.node_table.specs.Entries.{pages_for, entry_of, AreSound}
use Rattle.image_layout.specs.Geometry.{IsWithinLimits}
use Rattle.std.specs.declared.alloc.Global.{Global}
use Rattle.node_table.specs.Table.{TableView, committed}
use Rattle.blob_pages.specs.Draft.{Progress}
use Rattle.blob_disk.specs.Chains.{chain_of, without_draft}
use Rattle.blob_disk.specs.Pooled.{page_sum, IsPooled}
use Rattle.blob_pages.specs.Written.{IsOn, AreWritten}
use Rattle.blob_disk.specs.declared.answers.RoomFault.{RoomFault}
use Rattle.blob_disk.specs.declared.answers.RoomFault.TheVariants.{TooLarge, NoNode, NoSpace}

-- The blobs of a disk: the table with the stock, the drafts with their pages, and whether a call has
-- answered `Broke`, after which nothing can be written.
pub record BlobsView : Type 0 where
  pub table : TableView
  pub drafts : List Entry
  pub broken : Bool

-- the stock, and then the drafts
abbrev pub all_entries : BlobsView → List Entry
all_entries blobs = blobs.table.entries ++ blobs.drafts

-- What the fields keep to. The entries and the drafts could stand in one table. Just their pages are taken, and
-- there is room to note all pages until a write fails. Where the table is broken, the blobs are.
pub record AreBlobs (t : TableView) (drafts : List Entry) (flags : List Bool)
    (spare : Vec ℕ Global) (broken : Bool) : Type 0 where
  pub limits : IsWithinLimits t.geometry
  pub sound : AreSound t.geometry (t.entries ++ drafts)
  pub pool : IsPooled (t.entries ++ drafts) flags t.geometry.data_pages
  pub noted : broken ≡ false → t.geometry.data_pages ≤ vec_capacity spare
  pub flag : t.broken ≡ true → broken ≡ true

-- how many data pages are neither the stock's nor a draft's
abbrev pub free_pages : BlobsView → ℕ
free_pages blobs = blobs.table.geometry.data_pages - page_sum (all_entries blobs)

-- the first reason to refuse a draft of this length, if there is one
abbrev pub room_fault : BlobsView → ℕ → Option RoomFault
room_fault blobs len =
    if nat_lt BLOB_LIMIT len then Some (TooLarge len)
    else (if length (all_entries blobs) == blobs.table.geometry.blobs then Some NoNode
    else (if nat_lt (free_pages blobs) (pages_for len) then Some (NoSpace (pages_for len) (free_pages blobs))
    else None))

-- the draft is one of these blobs'
abbrev pub IsDraftIn : BlobsView → Progress → Type 0
IsDraftIn blobs draft =
    (entry : Entry) × (entry_of blobs.drafts draft.root ≡ Some entry) × (entry.len ≡ draft.len)

-- the page of the disk is one of the draft's
abbrev pub IsPageOf : BlobsView → Progress → ℕ → Type 0
IsPageOf blobs draft n = IsOn (data_start blobs.table.geometry) (chain_of blobs.drafts draft.root) n

-- the pages of the draft that were passed are written, each at its place
abbrev pub IsPutOn : Option Past → BlobsView → Progress → List ℕ → Type 0
IsPutOn told blobs draft blob =
    AreWritten told (data_start blobs.table.geometry) (chain_of blobs.drafts draft.root) blob draft.pages

-- what a call may have made of the flag
abbrev pub with_broken : Bool → BlobsView → BlobsView
with_broken broken blobs = record blobs { broken = broken }

-- what a commit may have made of the table's flag
abbrev pub with_flag : Bool → TableView → TableView
with_flag flag t = record t { broken = flag }

-- The blobs after a write of a commit, or one before it, has failed. The stock and the drafts have the entries
-- that they had, and nothing can be written any more. The table has a flag of its own.
abbrev pub with_failed : Bool → BlobsView → BlobsView
with_failed flag blobs = record blobs { table = with_flag flag blobs.table; broken = true }

-- the blobs after a draft of this root has ended without a blob
abbrev pub without_draft_of : Root → BlobsView → BlobsView
without_draft_of root blobs = record blobs { drafts = without_draft root blobs.drafts }

-- the blobs after a draft of this root has become the last of the stock
abbrev pub with_landed : Root → BlobsView → BlobsView
with_landed root blobs = record blobs {
  table = committed blobs.table (entry_of blobs.drafts root) [];
  drafts = without_draft root blobs.drafts;
}
