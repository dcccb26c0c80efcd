use Rattle.std.proofs.Common.{◌∙◌, arith}
use Rattle.node_table.proofs.IndexLemmas.{new_next, placed_next}
use Rattle.node_table.proofs.index.fill_index.Goals as goal

pub loop-i-preserved : goal.loop-i-preserved
loop-i-preserved c =
    let i = c.loop-i.i in
    let entry = c.index-entries-i.result in
    let none = c.put_place.ensures.before ∙ c.loop-i.invariant.index entry.root ∙ new_next c.args.entries.now i entry c.loop-i-test.true c.index-entries-i.is c.requires.distinct in
    record {
      index = λ root. placed_next c.args.entries.now i c.index-entries-i.result _ _ root c.loop-i-test.true c.index-entries-i.is c.requires.distinct (c.loop-i.invariant.index root) (c.put_place.ensures.put root);
      left = omega (arith, c.loop-i.invariant.left, c.put_place.ensures.spare);
      room = omega (arith, c.loop-i.invariant.room, c.put_place.ensures.room none);
    }
