use Rattle.std.proofs.Common.{map, ap, sym, ◌∙◌}
use Rattle.std.specs.String.{string_bytes}
use Rattle.std.proofs.lemmas.Slice.Eq.{bytes_eq-Decides}
use Rattle.pkg_tool.proofs.Elements.{four_elements}
use Rattle.pkg_tool.proofs.words.three_after.Goals as goal

pub returns-then-may_name-3-clause-same : goal.returns-then-may_name-3-clause-same
returns-then-may_name-3-clause-same c =
    let words = ap (map string_bytes) (four_elements c.args.words.now _ _ _ _ c.in-len4.len_at_least c.in-len4.len_below c.command-item.is c.first-item.is c.second-item.is c.third-item.is) in
    let name = (bytes_eq-Decides c.as_str.result.now c.args.name.now).0 (sym c.eq.ensures ∙ c.if-eq.true) in
    cc
