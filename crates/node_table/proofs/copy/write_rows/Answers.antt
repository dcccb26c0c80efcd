use Rattle.std.proofs.Common.{◌+◌, ◌*◌, refl, ◌∙◌, inl, inr, arith}
use Rattle.disk_model.specs.Images.{IsInRow}
use Rattle.disk_model.proofs.Regions.{writes_write}
use Rattle.node_table.specs.Spelling.{row_on, unused_row}
use Rattle.node_table.proofs.PagesAs.{as_more}
use Rattle.node_table.proofs.Parts.{Holds, holds_part}
use Rattle.node_table.proofs.Acts.{row_more}
use Rattle.node_table.proofs.copy.write_rows.Goals as goal

pub returns-in_err-write-clause-only : goal.returns-in_err-write-clause-only
returns-in_err-write-clause-only g c =
    let disk = g.D.Disk in
    writes_write (IsInRow c.args.first c.args.count) (c.args.first + c.loop-j.j) c.put_rows.new.page (disk.past c.args.disk.now) (disk.past c.loop-j.disk) (disk.past c.write.new.self)
    (record { from = omega arith; below = omega (arith, c.loop-j-test.true) }) (inr c.in_err-write.ensures.failed) c.loop-j.invariant.only

pub loop-j-preserved : goal.loop-j-preserved
loop-j-preserved g c =
    let disk = g.D.Disk in
    let inv = c.loop-j.invariant in
    let j = c.loop-j.j in
    let step = c.write.ensures in
    let wrote = c.in_ok-write.ensures.wrote in
    let page = c.put_rows.new.page in
    record {
      written = as_more c.args.first j page (Holds row_on 64 c.args.rows.now unused_row) (disk.past c.loop-j.disk) (disk.past c.write.new.self) wrote
          (holds_part row_on 64 c.args.rows.now unused_row j (64 * j) (64 * j + 64) page refl refl c.put_rows.ensures) inv.written;
      acts = row_more c.args.first j (c.args.first + j) c.put_rows.new.page (disk.past c.args.disk.now) (disk.past c.loop-j.disk) (disk.past c.write.new.self) refl inv.acts wrote;
      only = writes_write (IsInRow c.args.first c.args.count) (c.args.first + j) page (disk.past c.args.disk.now) (disk.past c.loop-j.disk) (disk.past c.write.new.self)
          (record { from = omega arith; below = omega (arith, c.loop-j-test.true) }) (inl wrote) inv.only;
      pages_stay = step.pages_stay ∙ inv.pages_stay;
      tie_stays = step.tie_stays ∙ inv.tie_stays;
      reads_stay = step.reads_stay ∙ inv.reads_stay;
      faults_never_fall = omega (arith, step.faults_never_fall, inv.faults_never_fall);
      told = step.told;
    }
