use Rattle.std.proofs.Common.{ℕ, ◌++◌, List, sym, subst}
use Rattle.disk_model.specs.Images.{WritesOnly}
use Rattle.image_layout.specs.Geometry.{data_start}
use Rattle.pkg_names.specs.declared.root.Root.{Root}
use Rattle.blob_pages.specs.Written.{IsOn, AreWritten}
use Rattle.blob_disk.specs.Chains.{chain_of}
use Rattle.blob_disk.specs.Drafts.{BlobsView}
use Rattle.blob_disk.proofs.Putting.{added_written}
use Rattle.blob_disk.proofs.blobs.Blobs.put.Goals as goal

pub returns-in-Written-clause-put_on : goal.returns-in-Written-clause-put_on
returns-in-Written-clause-put_on g c = λ blob is before fits.
    let told = g.D.Disk.past c.args.disk.now in
    let v : BlobsView = c.args.self.now in
    let more : List ℕ = blob ++ c.args.bytes.now in
    let start : ℕ = data_start v.table.geometry in
    let same = c.in-Ok.ensures.declared in
    let added = added_written told start (chain_of v.drafts c.args.draft.now.root) blob c.args.bytes.now c.args.draft.now.pages is.within before in
    let moved = subst (λ (r : Root). AreWritten told start (chain_of v.drafts r) more c.args.draft.now.pages) (sym same.0) added in
    let here = subst (λ (n : ℕ). AreWritten told start (chain_of v.drafts c.add.new.self.root) more n) (sym same.2) moved in
    c.write.ensures.put_on more (c.in-Ok.ensures.ok blob is) here

pub returns-in-Written-clause-only : goal.returns-in-Written-clause-only
returns-in-Written-clause-only g c =
    let v : BlobsView = c.args.self.now in
    subst (λ (r : Root). WritesOnly (g.D.Disk.past c.args.disk.now) (g.D.Disk.past c.write.new.disk) (IsOn (data_start v.table.geometry) (chain_of v.drafts r))) c.in-Ok.ensures.declared.0 c.write.ensures.only

pub returns-in-Broke-clause-put_on : goal.returns-in-Broke-clause-put_on
returns-in-Broke-clause-put_on g c = λ blob is before fits.
    let told = g.D.Disk.past c.args.disk.now in
    let v : BlobsView = c.args.self.now in
    let more : List ℕ = blob ++ c.args.bytes.now in
    let start : ℕ = data_start v.table.geometry in
    let same = c.in-Ok.ensures.declared in
    let added = added_written told start (chain_of v.drafts c.args.draft.now.root) blob c.args.bytes.now c.args.draft.now.pages is.within before in
    let moved = subst (λ (r : Root). AreWritten told start (chain_of v.drafts r) more c.args.draft.now.pages) (sym same.0) added in
    let here = subst (λ (n : ℕ). AreWritten told start (chain_of v.drafts c.add.new.self.root) more n) (sym same.2) moved in
    c.write.ensures.put_on more (c.in-Ok.ensures.ok blob is) here

pub returns-in-Broke-clause-only : goal.returns-in-Broke-clause-only
returns-in-Broke-clause-only g c =
    let v : BlobsView = c.args.self.now in
    subst (λ (r : Root). WritesOnly (g.D.Disk.past c.args.disk.now) (g.D.Disk.past c.write.new.disk) (IsOn (data_start v.table.geometry) (chain_of v.drafts r))) c.in-Ok.ensures.declared.0 c.write.ensures.only
