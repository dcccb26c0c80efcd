use Rattle.std.proofs.Common.{List, ℕ, ◌++◌, ap, ◌∙◌}
use Rattle.slot_disk.specs.Header.{sum_text}
use Rattle.slot_disk.proofs.header.sum_text.Goals as goal

pub returns-clause-text : goal.returns-clause-text
unfolding sum_text
returns-clause-text c = c.join.ensures ∙ ap (λ (l : List ℕ). l ++ c.args.sum.now.sha) c.to_le_bytes.ensures
