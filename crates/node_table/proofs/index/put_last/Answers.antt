use Rattle.std.proofs.Common.{ℕ, List, cond, Some, sym, ◌∙◌, ap}
use Rattle.pkg_names.specs.Root.{root_eq}
use Rattle.node_table.specs.declared.entry.Entry.{Entry}
use Rattle.node_table.specs.Steps.{place_from}
use Rattle.std.specs.HashMap.{get}
use Rattle.node_table.proofs.IndexLemmas.{placed}
use Rattle.node_table.proofs.index.put_last.Goals as goal

pub returns-in-None-clause-index : goal.returns-in-None-clause-index
returns-in-None-clause-index c = λ _ root.
    let old = get root_eq c.args.index.now root in
    let entry = c.args.entry in
    let count = c.len.ensures ∙ c.args.entries.now.ok.0 in
    placed c.args.entries.now.items entry old (get root_eq c.put_place.new.index root) root
    (sym (c.requires.index entry.root) ∙ sym c.put_place.ensures.before ∙ c.in-None.is) (c.requires.index root)
    (c.put_place.ensures.put root ∙ ap (λ (n : ℕ). cond (root_eq entry.root root) (Some n) old) count)
    ∙ ap (λ (es : List Entry). place_from 0 es root) (sym c.push_reserved.ensures.items)
