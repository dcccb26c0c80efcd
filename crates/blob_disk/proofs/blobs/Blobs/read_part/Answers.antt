use Rattle.std.proofs.Common.{◌≡◌, ℕ, List, Some, sym, subst, ap, ◌∙◌}
use Rattle.disk_model.specs.Images.{EachImage}
use Rattle.image_layout.specs.Geometry.{data_start}
use Rattle.node_table.specs.Entries.{IsEntry, entry_of}
use Rattle.node_table.specs.Table.{TableView}
use Rattle.blob_pages.specs.Chains.{bytes_in}
use Rattle.blob_disk.specs.Drafts.{BlobsView}
use Rattle.blob_disk.proofs.StoredBytes.{stored_bytes}
use Rattle.blob_disk.proofs.blobs.Blobs.read_part.Goals as goal

pub returns-clause-part : goal.returns-clause-part
returns-clause-part g c = λ contents stores.
    let disk = g.D.Disk in
    let t : TableView = c.args.self.now.table in
    let own : c.self.inside.table ≡ t = ap (λ (b : BlobsView). b.table) c.self.view_is in
    let start_is : c.data_start-start.result ≡ data_start t.geometry = c.data_start-start.ensures ∙ ap data_start (c.geometry.ensures.geometry ∙ ap (λ (v : TableView). v.geometry) own) in
    let found : entry_of t.entries c.args.root.now ≡ Some c.entry_at-entry.result.now = subst (λ (v : TableView). entry_of v.entries c.args.root.now ≡ Some c.entry_at-entry.result.now) own c.entry_at-entry.ensures.found in
    let is : IsEntry t.geometry.data_pages c.entry_at-entry.result.now = subst (λ (v : TableView). IsEntry v.geometry.data_pages c.entry_at-entry.result.now) own c.entry_at-entry.ensures.is in
    let each = subst (λ (s : ℕ). EachImage (disk.past c.args.disk.now) (λ image. bytes_in s c.entry_at-entry.result.now.pages c.entry_at-entry.result.now.len image ≡ contents c.args.root.now)) (sym start_is) (stored_bytes (disk.past c.args.disk.now) t contents c.args.root.now c.entry_at-entry.result.now found stores) in
    let here = subst (λ (l : List ℕ). EachImage (disk.past c.args.disk.now) (λ image. bytes_in c.data_start-start.result l c.entry_at-entry.result.now.len image ≡ contents c.args.root.now)) (sym c.as_slice.ensures.list) each in
    c.read_part.ensures.part (contents c.args.root.now) here
