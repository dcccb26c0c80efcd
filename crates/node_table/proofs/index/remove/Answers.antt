use Rattle.std.proofs.Common.{not, rules, tests}
use Rattle.std.proofs.lemmas.Fn.{filter_same}
use Rattle.node_table.specs.declared.entry.Entry.{Entry}
use Rattle.node_table.specs.Entries.{is_among}
use Rattle.node_table.proofs.index.remove.Goals as goal

pub returns-clause-items : goal.returns-clause-items
returns-clause-items c = filter_same _ (λ (entry : Entry). not (is_among c.args.gone.now entry.root)) _ (λ x b f k. search (rules, tests)) _ _ c.retain.ensures.filtered
