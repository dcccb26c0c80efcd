use Rattle.std.proofs.Common.{◌≡◌, ◌⊎◌, [], length, Option, Some, sym, ap, subst, ◌∙◌}
use Rattle.disk_model.specs.Images.{AtEach, WritesOnly}
use Rattle.image_layout.specs.Geometry.{data_start}
use Rattle.pkg_names.specs.declared.root.Root.{Root}
use Rattle.pkg_merkle.specs.Merkle.{merkle_root}
use Rattle.node_table.specs.declared.entry.Entry.{Entry}
use Rattle.node_table.specs.Entries.{entry_of}
use Rattle.node_table.specs.Table.{IsCommitPage, committed}
use Rattle.blob_pages.specs.Written.{IsOn}
use Rattle.blob_disk.specs.Chains.{chain_of}
use Rattle.blob_disk.specs.Drafts.{BlobsView}
use Rattle.blob_disk.specs.Stock.{HasBlobs}
use Rattle.blob_disk.proofs.StoredBytes.{entry_root}
use Rattle.blob_disk.proofs.WholeBlobs.{whole_written, nothing_written}
use Rattle.blob_disk.proofs.blobs.Blobs.land.Goals as goal

pub returns-in-Short-clause-each_moment : goal.returns-in-Short-clause-each_moment
returns-in-Short-clause-each_moment g c = λ blob contents is content put stores.
    let v : BlobsView = c.args.self.now in
    nothing_written (g.D.Disk.past c.args.disk.now) v.table (committed v.table (entry_of v.drafts c.args.draft.root) []) contents stores

pub returns-in-Wrong-clause-each_moment : goal.returns-in-Wrong-clause-each_moment
returns-in-Wrong-clause-each_moment g c = λ blob contents is content put stores.
    let v : BlobsView = c.args.self.now in
    nothing_written (g.D.Disk.past c.args.disk.now) v.table (committed v.table (entry_of v.drafts c.args.draft.root) []) contents stores

pub returns-in-Ok-clause-each_moment : goal.returns-in-Ok-clause-each_moment
returns-in-Ok-clause-each_moment g c = λ blob contents is content put stores.
    let v : BlobsView = c.args.self.now in
    let root : Root = c.args.draft.root in
    let own = c.requires.own in
    let ends = c.in-Whole.ensures.ends blob is in
    let found : entry_of v.drafts c.root-root.result ≡ Some own.0 = subst (λ (r : Root). entry_of v.drafts r ≡ Some own.0) (sym c.root-root.ensures) own.1 in
    let named : root ≡ own.0.root = entry_root v.drafts root own.0 own.1 in
    let size : length blob ≡ own.0.len = ends.0 ∙ sym own.2 in
    let of_root : merkle_root blob ≡ own.0.root = sym ends.1 ∙ named in
    let content_is : contents own.0.root ≡ blob = ap contents (sym named) ∙ content in
    let written = whole_written (g.D.Disk.past c.args.disk.now) (data_start v.table.geometry) v.drafts c.args.draft blob own.0 own.1 own.2 is c.requires.open ends.0 put in
    subst (λ (o : Option Entry). AtEach (g.D.Disk.past c.args.disk.now) (g.D.Disk.past c.store.new.disk) (λ image. HasBlobs v.table contents image ⊎ HasBlobs (committed v.table o []) contents image)) (sym own.1)
    (c.store.ensures.each_moment own.0 blob contents found size ends.2 of_root content_is written stores)

pub returns-in-Ok-clause-stores : goal.returns-in-Ok-clause-stores
returns-in-Ok-clause-stores g c = λ blob contents is content put stores landed.
    let v : BlobsView = c.args.self.now in
    let root : Root = c.args.draft.root in
    let own = c.requires.own in
    let ends = c.in-Whole.ensures.ends blob is in
    let found : entry_of v.drafts c.root-root.result ≡ Some own.0 = subst (λ (r : Root). entry_of v.drafts r ≡ Some own.0) (sym c.root-root.ensures) own.1 in
    let named : root ≡ own.0.root = entry_root v.drafts root own.0 own.1 in
    let size : length blob ≡ own.0.len = ends.0 ∙ sym own.2 in
    let of_root : merkle_root blob ≡ own.0.root = sym ends.1 ∙ named in
    let content_is : contents own.0.root ≡ blob = ap contents (sym named) ∙ content in
    let written = whole_written (g.D.Disk.past c.args.disk.now) (data_start v.table.geometry) v.drafts c.args.draft blob own.0 own.1 own.2 is c.requires.open ends.0 put in
    c.in-Ok.ensures.stores own.0 blob contents found size ends.2 of_root content_is written stores

pub returns-in-Ok-clause-only : goal.returns-in-Ok-clause-only
returns-in-Ok-clause-only g c =
    let v : BlobsView = c.args.self.now in
    subst (λ (r : Root). WritesOnly (g.D.Disk.past c.args.disk.now) (g.D.Disk.past c.store.new.disk) (λ n. IsOn (data_start v.table.geometry) (chain_of v.drafts r) n ⊎ IsCommitPage v.table n)) c.root-root.ensures c.store.ensures.only

pub returns-in-Err-clause-each_moment : goal.returns-in-Err-clause-each_moment
returns-in-Err-clause-each_moment g c = λ blob contents is content put stores.
    let v : BlobsView = c.args.self.now in
    let root : Root = c.args.draft.root in
    let own = c.requires.own in
    let ends = c.in-Whole.ensures.ends blob is in
    let found : entry_of v.drafts c.root-root.result ≡ Some own.0 = subst (λ (r : Root). entry_of v.drafts r ≡ Some own.0) (sym c.root-root.ensures) own.1 in
    let named : root ≡ own.0.root = entry_root v.drafts root own.0 own.1 in
    let size : length blob ≡ own.0.len = ends.0 ∙ sym own.2 in
    let of_root : merkle_root blob ≡ own.0.root = sym ends.1 ∙ named in
    let content_is : contents own.0.root ≡ blob = ap contents (sym named) ∙ content in
    let written = whole_written (g.D.Disk.past c.args.disk.now) (data_start v.table.geometry) v.drafts c.args.draft blob own.0 own.1 own.2 is c.requires.open ends.0 put in
    subst (λ (o : Option Entry). AtEach (g.D.Disk.past c.args.disk.now) (g.D.Disk.past c.store.new.disk) (λ image. HasBlobs v.table contents image ⊎ HasBlobs (committed v.table o []) contents image)) (sym own.1)
    (c.store.ensures.each_moment own.0 blob contents found size ends.2 of_root content_is written stores)

pub returns-in-Err-clause-only : goal.returns-in-Err-clause-only
returns-in-Err-clause-only g c =
    let v : BlobsView = c.args.self.now in
    subst (λ (r : Root). WritesOnly (g.D.Disk.past c.args.disk.now) (g.D.Disk.past c.store.new.disk) (λ n. IsOn (data_start v.table.geometry) (chain_of v.drafts r) n ⊎ IsCommitPage v.table n)) c.root-root.ensures c.store.ensures.only
