use Rattle.std.proofs.Common.{◌+◌, length, refl, inl, inr, ◌∙◌, arith}
use Rattle.disk_model.specs.Past.{page_at}
use Rattle.disk_model.specs.Images.{IsInRow}
use Rattle.disk_model.proofs.Regions.{writes_write}
use Rattle.disk_model.proofs.ManyPages.{all_written_more}
use Rattle.disk_model.proofs.RowLemmas.{acts_page}
use Rattle.disk_model.proofs.rows.write_pages.Goals as goal

pub returns-in_err-write-clause-only : goal.returns-in_err-write-clause-only
returns-in_err-write-clause-only g c =
    let disk = g.D.Disk in
    writes_write (IsInRow c.args.first (length c.args.pages.now)) (c.args.first + c.loop-i.i) (page_at c.args.pages.now c.loop-i.i) (disk.past c.args.disk.now) (disk.past c.loop-i.disk) (disk.past c.write.new.self)
    (record { from = omega arith; below = omega (arith, c.loop-i-test.true) }) (inr c.in_err-write.ensures.failed) c.loop-i.invariant.only

pub loop-i-preserved : goal.loop-i-preserved
loop-i-preserved g c =
    let disk = g.D.Disk in
    let inv = c.loop-i.invariant in
    let step = c.write.ensures in
    let wrote = c.in_ok-write.ensures.wrote in
    let lt = c.loop-i-test.true in
    record {
      acts = acts_page (disk.past c.args.disk.now) (disk.past c.loop-i.disk) (disk.past c.write.new.self) c.args.first c.loop-i.i c.args.pages.now (page_at c.args.pages.now c.loop-i.i) lt refl inv.acts wrote;
      written = all_written_more (λ i. c.args.first + i) (page_at c.args.pages.now) c.loop-i.i (disk.past c.loop-i.disk) (disk.past c.write.new.self) (λ i below e. omega (arith, e, below)) wrote inv.written;
      only = writes_write (IsInRow c.args.first (length c.args.pages.now)) (c.args.first + c.loop-i.i) (page_at c.args.pages.now c.loop-i.i) (disk.past c.args.disk.now) (disk.past c.loop-i.disk) (disk.past c.write.new.self)
          (record { from = omega arith; below = omega (arith, lt) }) (inl wrote) inv.only;
      pages_stay = step.pages_stay ∙ inv.pages_stay;
      tie_stays = step.tie_stays ∙ inv.tie_stays;
      reads_stay = step.reads_stay ∙ inv.reads_stay;
      faults_never_fall = omega (arith, step.faults_never_fall, inv.faults_never_fall);
      told_before = inv.told_before;
      told = step.told;
    }
