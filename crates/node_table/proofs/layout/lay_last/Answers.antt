use Rattle.std.proofs.Common.{set, sym, ◌∙◌, ap, arith}
use Rattle.node_table.specs.Spelling.{row_of}
use Rattle.node_table.proofs.LayLemmas.{laid_more}
use Rattle.node_table.proofs.layout.lay_last.Goals as goal

pub returns-clause-laid : goal.returns-clause-laid
returns-clause-laid c = λ _ kept size apart laid.
    laid_more c.args.rows.now c.put_entry.new.rows c.args.links.now c.put_entry.new.links kept c.args.entry.now laid (omega (arith, size, c.requires.at, c.if-at-rows.false))
    (c.put_entry.ensures.rows ∙ ap (λ n. set c.args.rows.now n (row_of c.args.entry.now)) (sym size)) c.put_entry.ensures.chain c.put_entry.ensures.others apart
