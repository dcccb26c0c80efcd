use Rattle.std.proofs.Common.{rules, tests, not, ◌||◌, ◌∙◌}
use Rattle.std.proofs.lemmas.Iterator.{YieldsList-from_slice}
use Rattle.std.proofs.lemmas.Iterator.Search.{find_from_yields_List}
use Rattle.fetch_queue.specs.Fetches.{is_claimed}
use Rattle.store_model.specs.State.{is_stored}
use Rattle.plain_stock.proofs.packages.free_in.Goals as goal

pub returns : goal.returns
returns c =
    c.copied.ensures ∙ find_from_yields_List (λ name. not (is_stored c.args.stock.now name || is_claimed c.args.queue.now.claims name)) _ _ c.find.result c.find.ensures.ran (YieldsList-from_slice c.args.roots.now (cc)) (λ x b q k. search (rules, tests))
