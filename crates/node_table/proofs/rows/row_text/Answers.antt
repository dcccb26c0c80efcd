use Rattle.std.proofs.Common.{ℕ, List, ◌++◌, replicate, refl, ◌∙◌, ap, arith}
use Rattle.node_table.proofs.RowText.{halves}
use Rattle.node_table.proofs.rows.row_text.Goals as goal

pub returns-clause-text : goal.returns-clause-text
returns-clause-text c =
    let row = c.args.row.now in
    halves row.root.0 (replicate 32 0) c.copy_from_slice.new.self c.copy_from_slice-2.new.self c.copy_from_slice.ensures.after (omega arith) refl
    ∙ ap (λ (l : List ℕ). row.root.0 ++ l) (c.copy_from_slice-2.ensures.after ∙ c.numbers_text.ensures)
