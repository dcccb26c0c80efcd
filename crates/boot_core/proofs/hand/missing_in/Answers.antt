use Rattle.std.proofs.Common.{rules, tests, not, is_some, ◌∙◌}
use Rattle.std.proofs.lemmas.Iterator.{YieldsList-from_slice}
use Rattle.std.proofs.lemmas.Iterator.Search.{find_from_yields_List}
use Rattle.boot_core.specs.Look.{len_in}
use Rattle.boot_core.proofs.hand.missing_in.Goals as goal

pub returns : goal.returns
returns g c =
    c.copied.ensures ∙ find_from_yields_List (λ name. not (is_some (len_in (g.L.Look.stock c.args.look.now) name))) _ _ c.find.result c.find.ensures.ran (YieldsList-from_slice c.args.roots.now (cc)) (λ x b q k. search (rules, tests))
