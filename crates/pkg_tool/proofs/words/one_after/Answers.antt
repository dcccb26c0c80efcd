use Rattle.std.proofs.Common.{map, ap, sym, ◌∙◌}
use Rattle.std.specs.String.{string_bytes}
use Rattle.std.proofs.lemmas.Slice.Eq.{bytes_eq-Decides}
use Rattle.pkg_tool.proofs.Elements.{two_elements}
use Rattle.pkg_tool.proofs.words.one_after.Goals as goal

pub returns-then-may_name-clause-same : goal.returns-then-may_name-clause-same
returns-then-may_name-clause-same c =
    let words = ap (map string_bytes) (two_elements c.args.words.now _ _ c.in-len2.len_at_least c.in-len2.len_below c.command-item.is c.word-item.is) in
    let name = (bytes_eq-Decides c.as_str.result.now c.args.name.now).0 (sym c.eq.ensures ∙ c.if-eq.true) in
    cc
