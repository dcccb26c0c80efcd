use Rattle.std.proofs.Common.{ℕ, ◌+◌, List, [], ◌∷◌, length, take, sym, ◌∙◌, ap, subst, arith, length-append}
use Rattle.std.proofs.lemmas.List.{length-take-le}
use Rattle.node_table.specs.declared.entry.Entry.{Entry}
use Rattle.node_table.specs.Entries.{without}
use Rattle.node_table.specs.Steps.{LaidOut}
use Rattle.node_table.proofs.LayLemmas.{stays_short, without_more, front_apart}
use Rattle.node_table.proofs.layout.lay_out.Goals as goal

pub loop-entry-preserved : goal.loop-entry-preserved
loop-entry-preserved c =
    let gone = c.args.gone.now in
    let entries = c.args.entries.now in
    let i = c.loop-entry.entry-index in
    let entry = c.entry-item.result in
    let kept = without gone (take i entries) in
    let more = without_more gone entries i entry c.loop-entry-test.true c.entry-item.is in
    record {
      count = c.lay_next-at.ensures.next ∙ ap (λ (n : ℕ). n + length (without gone (entry ∷ []))) c.loop-entry.invariant.count
          ∙ sym (length-append kept (without gone (entry ∷ []))) ∙ ap length (sym more);
      laid = subst (λ (es : List Entry). LaidOut c.lay_next-at.new.rows c.lay_next-at.new.links es) (sym more)
          (c.lay_next-at.ensures.laid kept (sym c.loop-entry.invariant.count) (front_apart gone entries i entry c.loop-entry-test.true c.entry-item.is c.requires.together) c.loop-entry.invariant.laid);
    }

pub lay_next-at-requires-clause-at : goal.lay_next-at-requires-clause-at
lay_next-at-requires-clause-at c =
    let i = c.loop-entry.entry-index in
    let front = take i c.args.entries.now in
    omega (arith, c.loop-entry.invariant.count, stays_short c.args.gone.now front, length-take-le i c.args.entries.now (omega (arith, c.loop-entry-test.true)), c.loop-entry-test.true, c.requires.room, c.loop-entry.auto.rows, c.clear.auto.rows)
