use Rattle.std.proofs.Common.{rules, ◌∙◌}
use Rattle.std.proofs.Common.{tests}
use Rattle.std.proofs.lemmas.Iterator.{YieldsList-from_slice}
use Rattle.std.proofs.lemmas.Iterator.Search.{find_from_yields_List}
use Rattle.fetch_queue.proofs.Claims.{is_free}
use Rattle.fetch_queue.proofs.queue.first_free.Goals as goal

pub returns : goal.returns
returns c =
    c.copied.ensures ∙ find_from_yields_List (is_free c.args.claims.now) _ _ c.find.result c.find.ensures.ran (YieldsList-from_slice c.args.wanted.now (cc)) (λ x b q k. search (rules, tests))
