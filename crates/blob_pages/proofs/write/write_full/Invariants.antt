use Rattle.std.proofs.Common.{◌≡◌, ℕ, ◌+◌, ◌*◌, ◌≤◌, List, length}
use Rattle.disk_model.specs.Images.{with_acts, WritesOnly}
use Rattle.blob_pages.specs.Draft.{IsDraftOf}
use Rattle.blob_pages.specs.Written.{IsOn, AreWritten, page_acts}
use Rattle.blob_pages.proofs.write.write_full.Given as goal

abbrev pub invariant-loop-page : goal.invariant-loop-page
invariant-loop-page g l =
    let disk = g.D.Disk in
    record {
      whole : 4096 * l.draft.pages + length l.draft.rest ≤ 4096 * length l.chain;
      stands : (blob : List ℕ) → IsDraftOf l.fn.draft blob → IsDraftOf l.draft blob;
      root : l.draft.root ≡ l.fn.draft.root;
      len : l.draft.len ≡ l.fn.draft.len;
      hasher : l.draft.hasher ≡ l.fn.draft.hasher;
      kept : l.draft.kept ≡ l.fn.draft.kept;
      forward : l.fn.draft.pages ≤ l.draft.pages;
      acts : (blob : List ℕ) → IsDraftOf l.fn.draft blob → disk.past l.disk ≡ with_acts (disk.past l.fn.disk) (page_acts l.start l.chain blob l.fn.draft.pages l.draft.pages);
      written : (blob : List ℕ) → IsDraftOf l.fn.draft blob → AreWritten (disk.past l.fn.disk) l.start l.chain blob l.fn.draft.pages → AreWritten (disk.past l.disk) l.start l.chain blob l.draft.pages;
      only : WritesOnly (disk.past l.fn.disk) (disk.past l.disk) (IsOn l.start l.chain);
      pages_stay : disk.pages l.disk ≡ disk.pages l.fn.disk;
      tie_stays : disk.tie l.disk ≡ disk.tie l.fn.disk;
      reads_stay : disk.reads l.disk ≡ disk.reads l.fn.disk;
      faults_never_fall : disk.faults l.fn.disk ≤ disk.faults l.disk;
    }

abbrev pub decreases-loop-page : goal.decreases-loop-page
decreases-loop-page g l = length l.draft.rest
