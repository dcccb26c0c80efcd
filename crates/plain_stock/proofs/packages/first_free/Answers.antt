use Rattle.std.proofs.Common.{sym, ap, ◌∙◌}
use Rattle.std.specs.Prelude.{not, ◌||◌, find}
use Rattle.fetch_queue.specs.Fetches.{is_claimed}
use Rattle.store_model.specs.State.{is_stored}
use Rattle.plain_stock.proofs.Named.{named_here, named_later}
use Rattle.plain_stock.proofs.packages.first_free.Goals as goal

pub returns-then-is_free : goal.returns-then-is_free
returns-then-is_free c =
    sym (named_here (λ name. not (is_stored c.args.stock.now name || is_claimed c.args.queue.now.claims name)) c.args.root.now c.args.books.now (sym c.is_free.ensures ∙ c.if-is_free.true))

pub returns : goal.returns
returns c =
    c.free_in.ensures
    ∙ ap (find (λ name. not (is_stored c.args.stock.now name || is_claimed c.args.queue.now.claims name))) c.listed.ensures
    ∙ sym (named_later (λ name. not (is_stored c.args.stock.now name || is_claimed c.args.queue.now.claims name)) c.args.root.now c.args.books.now (sym c.is_free.ensures ∙ c.if-is_free.false))
