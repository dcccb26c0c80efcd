use Rattle.std.proofs.Common.{◌+◌, length, inl, arith}
use Rattle.disk_model.specs.Past.{page_at}
use Rattle.disk_model.specs.Images.{IsInRow}
use Rattle.disk_model.proofs.ManyPages.{all_written_sync, all_settled, settles_sync}
use Rattle.disk_model.proofs.rows.settle_pages.Goals as goal

pub returns-clause-written : goal.returns-clause-written
returns-clause-written g c =
    let past = g.D.Disk.past in
    all_written_sync (λ i. c.args.first + i) (page_at c.args.pages.now) (length c.args.pages.now) (past c.write_pages.new.disk) (past c.sync.new.self) (inl c.in_ok-sync.ensures.synced) c.in_ok-write_pages.ensures.written

pub returns-clause-settled : goal.returns-clause-settled
returns-clause-settled g c =
    let past = g.D.Disk.past in
    all_settled (λ i. c.args.first + i) (page_at c.args.pages.now) (length c.args.pages.now) (g.D.Disk.pages c.args.disk.now) (past c.write_pages.new.disk) (past c.sync.new.self)
    (λ i lt. omega (arith, lt, c.requires)) (rw c.write_pages.ensures.pages_stay at c.write_pages.ensures.told) c.in_ok-sync.ensures.synced c.in_ok-write_pages.ensures.written

pub returns-clause-others : goal.returns-clause-others
returns-clause-others g c =
    let past = g.D.Disk.past in
    settles_sync (IsInRow c.args.first (length c.args.pages.now)) (g.D.Disk.pages c.args.disk.now) (past c.args.disk.now) (past c.write_pages.new.disk) (past c.sync.new.self)
    (rw c.write_pages.ensures.pages_stay at c.write_pages.ensures.told) c.in_ok-write_pages.ensures.only c.in_ok-sync.ensures.synced
