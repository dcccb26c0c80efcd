use Rattle.std.proofs.Common.{ℕ, length, sym, refl, ap, subst, arith, Option}
use Rattle.node_table.specs.declared.entry.Entry.{Entry}
use Rattle.node_table.specs.Entries.{IsEntry, without, with_added}
use Rattle.node_table.specs.Steps.{LaidOut}
use Rattle.node_table.proofs.LayLemmas.{stays_short, kept_apart}
use Rattle.node_table.proofs.layout.lay_all.Goals as goal

pub lay_last-requires-clause-at : goal.lay_last-requires-clause-at
lay_last-requires-clause-at c = omega (arith, c.lay_kept-at.ensures.count, stays_short c.args.gone.now c.args.entries.now, c.requires.room, c.lay_kept-at.auto.rows)

pub lay_last-requires-clause-entry : goal.lay_last-requires-clause-entry
lay_last-requires-clause-entry c = subst (λ (n : ℕ). IsEntry n c.in-Some.entry) (sym c.lay_kept-at.auto.links) (c.requires.added c.in-Some.entry c.in-Some.is).0

pub returns-in-None-clause-fits : goal.returns-in-None-clause-fits
returns-in-None-clause-fits c =
    let none = ap (λ (add : Option Entry). length (with_added add (without c.args.gone.now c.args.entries.now))) c.in-None.is in
    (λ _. omega (arith, none, stays_short c.args.gone.now c.args.entries.now, c.requires.room), λ _. refl)

pub returns-in-Some-clause-laid : goal.returns-in-Some-clause-laid
returns-in-Some-clause-laid c = λ yes.
    let kept = without c.args.gone.now c.args.entries.now in
    subst (λ (add : Option Entry). LaidOut c.lay_last.new.rows c.lay_last.new.links (with_added add kept)) (sym c.in-Some.is)
    (c.lay_last.ensures.laid yes kept (sym c.lay_kept-at.ensures.count) (kept_apart c.args.gone.now c.args.entries.now c.in-Some.entry (c.requires.added c.in-Some.entry c.in-Some.is).1) c.lay_kept-at.ensures.laid)
