use Rattle.std.proofs.Common.{List, length, subst, arith, take_all}
use Rattle.disk_model.specs.declared.act.DiskAct.{DiskAct}
use Rattle.disk_model.proofs.LastPicks.{AreLastActs, noted_size, noted_last}
use Rattle.disk_model.proofs.last.note_all.Goals as goal

pub loop-i-preserved : goal.loop-i-preserved
loop-i-preserved c =
    let count = length c.args.last.now in
    let inv = c.loop-i.invariant in
    record {
      size = noted_size c.args.acts.now c.loop-i.i count c.loop-i.last c.note.new.last c.loop-i-test.true inv.size c.note.ensures;
      each = noted_last c.args.acts.now c.loop-i.i count c.loop-i.last c.note.new.last c.loop-i-test.true inv.size c.note.ensures c.requires.range inv.each;
    }

pub returns-clause-each : goal.returns-clause-each
returns-clause-each c =
    subst (λ (l : List DiskAct). AreLastActs l (length c.args.last.now) c.loop-i.last)
    (take_all c.loop-i.i c.args.acts.now (omega (arith, c.loop-i-test.false))) c.loop-i.invariant.each
