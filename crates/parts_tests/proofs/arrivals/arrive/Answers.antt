use Rattle.std.proofs.Common.{◌≡◌, eqb, not, rules, tests, sym, ap, ◌∙◌}
use Rattle.std.specs.List.{list_any}
use Rattle.std.proofs.lemmas.Iterator.{YieldsList-from_slice}
use Rattle.std.proofs.lemmas.Iterator.Search.{any_from_yields_List}
use Rattle.package_indexes.specs.declared.Arriving.{Arriving}
use Rattle.parts_tests.proofs.arrivals.arrive.Goals as goal

pub returns : goal.returns
returns c =
    let has : c.any.result ≡ list_any (λ (arrival : Arriving). eqb arrival.ticket c.args.ticket) c.args.indexes.now.arriving =
    any_from_yields_List (λ (arrival : Arriving). eqb arrival.ticket c.args.ticket) _ _ c.any.result c.any.ensures.ran (YieldsList-from_slice c.args.indexes.now.arriving (cc)) (λ x b q k. search (rules, tests)) in
    ap not (sym c.if-any.false ∙ has)
