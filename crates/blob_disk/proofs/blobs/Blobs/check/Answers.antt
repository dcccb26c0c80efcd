use Rattle.std.proofs.Common.{◌≡◌, Some, subst, ap, ◌∙◌}
use Rattle.image_layout.specs.Geometry.{data_start}
use Rattle.node_table.specs.Entries.{IsEntry, entry_of}
use Rattle.node_table.specs.Table.{TableView}
use Rattle.blob_disk.specs.Drafts.{BlobsView}
use Rattle.blob_disk.proofs.StoredBytes.{checks_same}
use Rattle.blob_disk.proofs.blobs.Blobs.check.Goals as goal

pub returns-clause-same : goal.returns-clause-same
returns-clause-same g c = λ contents stores.
    let disk = g.D.Disk in
    let t : TableView = c.args.self.now.table in
    let own : c.self.inside.table ≡ t = ap (λ (b : BlobsView). b.table) c.self.view_is in
    let start_is : c.data_start-start.result ≡ data_start t.geometry = c.data_start-start.ensures ∙ ap data_start (c.geometry.ensures.geometry ∙ ap (λ (v : TableView). v.geometry) own) in
    let found : entry_of t.entries c.args.root.now ≡ Some c.entry_at.result.now = subst (λ (v : TableView). entry_of v.entries c.args.root.now ≡ Some c.entry_at.result.now) own c.entry_at.ensures.found in
    let is : IsEntry t.geometry.data_pages c.entry_at.result.now = subst (λ (v : TableView). IsEntry v.geometry.data_pages c.entry_at.result.now) own c.entry_at.ensures.is in
    checks_same (disk.past c.args.disk.now) (disk.pages c.args.disk.now) c.data_start-start.result t contents c.args.root.now c.entry_at.result.now found is start_is c.requires.room c.pages-count.ensures.told stores c.check_entry.result c.check_entry.ensures.checks
