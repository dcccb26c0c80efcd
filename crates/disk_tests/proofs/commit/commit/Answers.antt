-- One line for each exit.
use Rattle.std.proofs.Common.{inl, inr, arith}
use Rattle.disk_tests.proofs.CommitSteps.{at1, at2, at3, done}
use Rattle.disk_tests.proofs.commit.commit.Goals as goal

pub returns-in_err-settle_pages-clause-each_moment : goal.returns-in_err-settle_pages-clause-each_moment
returns-in_err-settle_pages-clause-each_moment g c = λ before same h.
    let past = g.D.Disk.past in
    at1 c.args.first c.args.pages.now c.args.chooser.now c.requires.choice c.requires.first before same (past c.args.disk.now) (past c.settle_pages.new.disk) (past c.settle_pages.new.disk) (past c.settle_pages.new.disk) c.requires.free h c.settle_pages.ensures.only

pub returns-in_err-write-clause-each_moment : goal.returns-in_err-write-clause-each_moment
returns-in_err-write-clause-each_moment g c = λ before same h.
    let past = g.D.Disk.past in
    at2 c.args.first c.args.pages.now c.args.chooser.now c.requires.choice c.requires.first before same (past c.args.disk.now) (past c.settle_pages.new.disk) (past c.write.new.self) (past c.write.new.self) c.requires.free h c.settle_pages.ensures.only c.in_ok-settle_pages.ensures.settled (inr c.in_err-write.ensures.failed)

pub returns-in_err-sync-clause-each_moment : goal.returns-in_err-sync-clause-each_moment
returns-in_err-sync-clause-each_moment g c = λ before same h.
    let past = g.D.Disk.past in
    at3 c.args.first c.args.pages.now c.args.chooser.now c.requires.choice c.requires.first before same (past c.args.disk.now) (past c.settle_pages.new.disk) (past c.write.new.self) (past c.sync.new.self) c.requires.free h c.settle_pages.ensures.only c.in_ok-settle_pages.ensures.settled (inl c.in_ok-write.ensures.wrote) (inr c.in_err-sync.ensures.failed)

pub returns-clause-each_moment : goal.returns-clause-each_moment
returns-clause-each_moment g c = λ before same h.
    let past = g.D.Disk.past in
    at3 c.args.first c.args.pages.now c.args.chooser.now c.requires.choice c.requires.first before same (past c.args.disk.now) (past c.settle_pages.new.disk) (past c.write.new.self) (past c.sync.new.self) c.requires.free h c.settle_pages.ensures.only c.in_ok-settle_pages.ensures.settled (inl c.in_ok-write.ensures.wrote) (inl c.in_ok-sync.ensures.synced)

pub returns-clause-done : goal.returns-clause-done
returns-clause-done g c =
    let past = g.D.Disk.past in
    done c.args.first c.args.pages.now c.args.chooser.now c.requires.choice c.requires.first (g.D.Disk.pages c.args.disk.now) (past c.settle_pages.new.disk) (past c.write.new.self) (past c.sync.new.self) (omega (arith, c.requires.room))
    (rw (c.write.ensures.pages_stay, c.settle_pages.ensures.pages_stay) at c.write.ensures.told) c.in_ok-settle_pages.ensures.settled c.in_ok-write.ensures.wrote c.in_ok-sync.ensures.synced
