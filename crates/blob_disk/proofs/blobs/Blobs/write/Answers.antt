use Rattle.std.proofs.Common.{sym, subst}
use Rattle.image_layout.specs.Geometry.{data_start}
use Rattle.blob_pages.specs.Written.{AreWritten}
use Rattle.blob_disk.specs.Chains.{chain_of}
use Rattle.blob_disk.specs.Drafts.{BlobsView}
use Rattle.blob_disk.proofs.Placing.{stores_outside, written_as, only_as}
use Rattle.blob_disk.proofs.OwnChains.{own_chain}
use Rattle.blob_disk.proofs.blobs.Blobs.write.Goals as goal

pub write_full-requires-clause-whole : goal.write_full-requires-clause-whole
write_full-requires-clause-whole g c =
    let o = own_chain c.args.self.now c.self.inside.table c.self.inside.drafts.items c.self.inside.pool c.self.inside.spare c.self.inside.broken c.self.view_is c.self.invariant c.args.draft.now c.requires.own c.data_start-start.result c.chain_of-chain.result.now c.geometry.result.now c.geometry.ensures.geometry c.data_start-start.ensures c.deref.result.now c.root.result c.deref.ensures.value c.root.ensures c.chain_of-chain.ensures in
    o.whole

pub write_full-requires-clause-range : goal.write_full-requires-clause-range
write_full-requires-clause-range g c =
    let o = own_chain c.args.self.now c.self.inside.table c.self.inside.drafts.items c.self.inside.pool c.self.inside.spare c.self.inside.broken c.self.view_is c.self.invariant c.args.draft.now c.requires.own c.data_start-start.result c.chain_of-chain.result.now c.geometry.result.now c.geometry.ensures.geometry c.data_start-start.ensures c.deref.result.now c.root.result c.deref.ensures.value c.root.ensures c.chain_of-chain.ensures in
    o.range (g.D.Disk.pages c.args.disk.now) c.requires.room

pub write_full-requires-clause-apart : goal.write_full-requires-clause-apart
write_full-requires-clause-apart g c =
    let o = own_chain c.args.self.now c.self.inside.table c.self.inside.drafts.items c.self.inside.pool c.self.inside.spare c.self.inside.broken c.self.view_is c.self.invariant c.args.draft.now c.requires.own c.data_start-start.result c.chain_of-chain.result.now c.geometry.result.now c.geometry.ensures.geometry c.data_start-start.ensures c.deref.result.now c.root.result c.deref.ensures.value c.root.ensures c.chain_of-chain.ensures in
    o.distinct

pub returns-in-Ok-clause-put_on : goal.returns-in-Ok-clause-put_on
returns-in-Ok-clause-put_on g c = λ blob is before.
    let disk = g.D.Disk in
    let v : BlobsView = c.args.self.now in
    let o = own_chain c.args.self.now c.self.inside.table c.self.inside.drafts.items c.self.inside.pool c.self.inside.spare c.self.inside.broken c.self.view_is c.self.invariant c.args.draft.now c.requires.own c.data_start-start.result c.chain_of-chain.result.now c.geometry.result.now c.geometry.ensures.geometry c.data_start-start.ensures c.deref.result.now c.root.result c.deref.ensures.value c.root.ensures c.chain_of-chain.ensures in
    subst (λ r. AreWritten (disk.past c.write_full.new.disk) (data_start v.table.geometry) (chain_of v.drafts r) blob c.write_full.new.draft.pages) (sym c.write_full.ensures.declared.0)
    (written_as (disk.past c.args.disk.now) (disk.past c.write_full.new.disk) c.data_start-start.result (data_start v.table.geometry) c.chain_of-chain.result.now (chain_of v.drafts c.args.draft.now.root) blob c.args.draft.now.pages c.write_full.new.draft.pages
    o.start_is o.chain_is (c.write_full.ensures.written blob is) before)

pub returns-in-Ok-clause-stores : goal.returns-in-Ok-clause-stores
returns-in-Ok-clause-stores g c = λ contents stores.
    let disk = g.D.Disk in
    let v : BlobsView = c.args.self.now in
    let o = own_chain c.args.self.now c.self.inside.table c.self.inside.drafts.items c.self.inside.pool c.self.inside.spare c.self.inside.broken c.self.view_is c.self.invariant c.args.draft.now c.requires.own c.data_start-start.result c.chain_of-chain.result.now c.geometry.result.now c.geometry.ensures.geometry c.data_start-start.ensures c.deref.result.now c.root.result c.deref.ensures.value c.root.ensures c.chain_of-chain.ensures in
    stores_outside v.table contents c.requires.own.0 (disk.past c.args.disk.now) (disk.past c.write_full.new.disk) o.limits o.behind stores
    (only_as (disk.past c.args.disk.now) (disk.past c.write_full.new.disk) c.data_start-start.result (data_start v.table.geometry) c.chain_of-chain.result.now c.requires.own.0.pages o.start_is o.pages_are c.write_full.ensures.only)

pub returns-in-Ok-clause-only : goal.returns-in-Ok-clause-only
returns-in-Ok-clause-only g c =
    let disk = g.D.Disk in
    let v : BlobsView = c.args.self.now in
    let o = own_chain c.args.self.now c.self.inside.table c.self.inside.drafts.items c.self.inside.pool c.self.inside.spare c.self.inside.broken c.self.view_is c.self.invariant c.args.draft.now c.requires.own c.data_start-start.result c.chain_of-chain.result.now c.geometry.result.now c.geometry.ensures.geometry c.data_start-start.ensures c.deref.result.now c.root.result c.deref.ensures.value c.root.ensures c.chain_of-chain.ensures in
    only_as (disk.past c.args.disk.now) (disk.past c.write_full.new.disk) c.data_start-start.result (data_start v.table.geometry) c.chain_of-chain.result.now (chain_of v.drafts c.args.draft.now.root) o.start_is o.chain_is c.write_full.ensures.only

pub returns-in-Err-clause-put_on : goal.returns-in-Err-clause-put_on
returns-in-Err-clause-put_on g c = λ blob is before.
    let disk = g.D.Disk in
    let v : BlobsView = c.args.self.now in
    let o = own_chain c.args.self.now c.self.inside.table c.self.inside.drafts.items c.self.inside.pool c.self.inside.spare c.self.inside.broken c.self.view_is c.self.invariant c.args.draft.now c.requires.own c.data_start-start.result c.chain_of-chain.result.now c.geometry.result.now c.geometry.ensures.geometry c.data_start-start.ensures c.deref.result.now c.root.result c.deref.ensures.value c.root.ensures c.chain_of-chain.ensures in
    subst (λ (b : BlobsView). AreWritten (disk.past c.write_full.new.disk) (data_start b.table.geometry) (chain_of b.drafts c.write_full.new.draft.root) blob c.write_full.new.draft.pages) (sym c.self.view_is)
    (subst (λ r. AreWritten (disk.past c.write_full.new.disk) (data_start v.table.geometry) (chain_of v.drafts r) blob c.write_full.new.draft.pages) (sym c.write_full.ensures.declared.0)
    (written_as (disk.past c.args.disk.now) (disk.past c.write_full.new.disk) c.data_start-start.result (data_start v.table.geometry) c.chain_of-chain.result.now (chain_of v.drafts c.args.draft.now.root) blob c.args.draft.now.pages c.write_full.new.draft.pages
    o.start_is o.chain_is (c.write_full.ensures.written blob is) before))

pub returns-in-Err-clause-stores : goal.returns-in-Err-clause-stores
returns-in-Err-clause-stores g c = λ contents stores.
    let disk = g.D.Disk in
    let v : BlobsView = c.args.self.now in
    let o = own_chain c.args.self.now c.self.inside.table c.self.inside.drafts.items c.self.inside.pool c.self.inside.spare c.self.inside.broken c.self.view_is c.self.invariant c.args.draft.now c.requires.own c.data_start-start.result c.chain_of-chain.result.now c.geometry.result.now c.geometry.ensures.geometry c.data_start-start.ensures c.deref.result.now c.root.result c.deref.ensures.value c.root.ensures c.chain_of-chain.ensures in
    stores_outside v.table contents c.requires.own.0 (disk.past c.args.disk.now) (disk.past c.write_full.new.disk) o.limits o.behind stores
    (only_as (disk.past c.args.disk.now) (disk.past c.write_full.new.disk) c.data_start-start.result (data_start v.table.geometry) c.chain_of-chain.result.now c.requires.own.0.pages o.start_is o.pages_are c.write_full.ensures.only)

pub returns-in-Err-clause-only : goal.returns-in-Err-clause-only
returns-in-Err-clause-only g c =
    let disk = g.D.Disk in
    let v : BlobsView = c.args.self.now in
    let o = own_chain c.args.self.now c.self.inside.table c.self.inside.drafts.items c.self.inside.pool c.self.inside.spare c.self.inside.broken c.self.view_is c.self.invariant c.args.draft.now c.requires.own c.data_start-start.result c.chain_of-chain.result.now c.geometry.result.now c.geometry.ensures.geometry c.data_start-start.ensures c.deref.result.now c.root.result c.deref.ensures.value c.root.ensures c.chain_of-chain.ensures in
    only_as (disk.past c.args.disk.now) (disk.past c.write_full.new.disk) c.data_start-start.result (data_start v.table.geometry) c.chain_of-chain.result.now (chain_of v.drafts c.args.draft.now.root) o.start_is o.chain_is c.write_full.ensures.only
