-- What a draft that came whole brings to its landing.
use Rattle.std.proofs.Common.{inl, ◌≡◌, ◌⊎◌, ℕ, ◌*◌, ◌/◌, List, length, Option, Some, ap, subst, arith, length-drop}
use Rattle.pkg_names.specs.declared.root.Root.{Root}
use Rattle.disk_model.specs.Past.{Past}
use Rattle.disk_model.specs.Images.{AtEach}
use Rattle.disk_model.proofs.Moments.{at_start, at_weaker}
use Rattle.node_table.specs.declared.entry.Entry.{Entry}
use Rattle.node_table.specs.Entries.{entry_of}
use Rattle.node_table.specs.Table.{TableView}
use Rattle.blob_pages.specs.Draft.{Progress, IsDraftOf, HasNoFullPage}
use Rattle.blob_pages.specs.Written.{AreWritten}
use Rattle.blob_disk.specs.Chains.{chain_of}
use Rattle.blob_disk.specs.Stock.{HasBlobs, Stores}
use Rattle.blob_disk.proofs.Placing.{chain-found}

-- all its full pages are written
pub whole_written : (told : Option Past) (start : ℕ) (drafts : List Entry) (draft : Progress) (blob : List ℕ) (entry : Entry) → entry_of drafts draft.root ≡ Some entry → entry.len ≡ draft.len → IsDraftOf draft blob → HasNoFullPage draft → length blob ≡ draft.len → AreWritten told start (chain_of drafts draft.root) blob draft.pages → AreWritten told start entry.pages blob (entry.len / 4096)
whole_written told start drafts draft blob entry found len is small size written =
    let count : draft.pages ≡ entry.len / 4096 = omega (arith, is.within, small, ap length is.rest, length-drop (4096 * draft.pages) blob, size, len) in
    subst (λ (n : ℕ). AreWritten told start entry.pages blob n) count
    (subst (λ (l : List ℕ). AreWritten told start l blob draft.pages) (chain-found drafts draft.root entry found) written)

-- where nothing is written each image keeps what it has
pub nothing_written : (told : Option Past) (t after : TableView) (contents : Root → List ℕ) → Stores told t contents → AtEach told told (λ image. HasBlobs t contents image ⊎ HasBlobs after contents image)
nothing_written told t after contents stores =
    at_weaker (HasBlobs t contents) (λ image. HasBlobs t contents image ⊎ HasBlobs after contents image) told told (λ image has. inl has) (at_start (HasBlobs t contents) told stores)
