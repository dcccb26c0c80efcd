use Rattle.std.proofs.Common.{ℕ, List, inl, arith}
use Rattle.disk_model.proofs.ManyPages.{all_settled}
use Rattle.disk_model.proofs.Regions.{writes_sync}
use Rattle.blob_pages.specs.Pages.{page_of, page_count}
use Rattle.blob_pages.specs.Written.{place, IsOn}
use Rattle.blob_pages.proofs.write.settle_blob.Goals as goal

pub returns-clause-settled : goal.returns-clause-settled
returns-clause-settled g c = λ blob size is before.
    let disk = g.D.Disk in
    let chain : List ℕ = c.args.chain.now in
    all_settled (place c.args.start chain) (page_of blob) (page_count c.args.len) (disk.pages c.args.disk.now) (disk.past c.write_open.new.disk) (disk.past c.sync.new.self)
    (λ i below. c.requires.range i 0 (omega (arith, below, c.requires.whole))) (rw c.write_open.ensures.pages_stay at c.sync.ensures.told_before) c.in_ok-sync.ensures.synced (c.in_ok-write_open.ensures.written blob size is before)

pub returns-clause-only : goal.returns-clause-only
returns-clause-only g c =
    let past = g.D.Disk.past in
    writes_sync (IsOn c.args.start c.args.chain.now) (past c.args.disk.now) (past c.write_open.new.disk) (past c.sync.new.self) (inl c.in_ok-sync.ensures.synced) c.write_open.ensures.only
