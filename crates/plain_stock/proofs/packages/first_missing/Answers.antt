use Rattle.std.proofs.Common.{sym, ap, ◌∙◌}
use Rattle.std.specs.Prelude.{not, find}
use Rattle.store_model.specs.State.{is_stored}
use Rattle.plain_stock.proofs.Named.{named_here, named_later}
use Rattle.plain_stock.proofs.packages.first_missing.Goals as goal

pub returns-then-not-is_stored : goal.returns-then-not-is_stored
returns-then-not-is_stored c =
    sym (named_here (λ name. not (is_stored c.args.stock.now name)) c.args.root.now c.args.books.now (ap not (sym c.is_stored.ensures ∙ c.if-not-is_stored.true)))

pub returns : goal.returns
returns c =
    c.missing_in.ensures
    ∙ ap (find (λ name. not (is_stored c.args.stock.now name))) c.listed.ensures
    ∙ sym (named_later (λ name. not (is_stored c.args.stock.now name)) c.args.root.now c.args.books.now (ap not (sym c.is_stored.ensures ∙ c.if-not-is_stored.false)))
