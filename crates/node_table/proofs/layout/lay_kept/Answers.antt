use Rattle.std.proofs.Common.{◌≡◌, List, length, sym, ◌∙◌, ap, subst}
use Rattle.std.proofs.lemmas.Bool.{eqb-true}
use Rattle.node_table.specs.declared.entry.Entry.{Entry}
use Rattle.node_table.specs.Entries.{without}
use Rattle.node_table.specs.Steps.{LaidOut}
use Rattle.node_table.proofs.IndexLemmas.{none_go}
use Rattle.node_table.proofs.layout.lay_kept.Goals as goal

-- all entries stay where no root goes
all_stay : (c : goal.Then-is_empty) → without c.args.gone.now c.args.entries.now ≡ c.args.entries.now
all_stay c = none_go c.args.gone.now c.args.entries.now (eqb-true (length c.args.gone.now) 0 (sym c.is_empty.ensures ∙ c.if-is_empty.true))

pub returns-then-is_empty-clause-count : goal.returns-then-is_empty-clause-count
returns-then-is_empty-clause-count c = ap length (sym (all_stay c))

pub returns-then-is_empty-clause-laid : goal.returns-then-is_empty-clause-laid
returns-then-is_empty-clause-laid c =
    subst (λ (kept : List Entry). LaidOut c.args.rows.now c.args.links.now kept) (sym (all_stay c)) (c.requires.laid c.if-laid.true)
