use Rattle.std.proofs.Common.{sym, ap, ◌∙◌}
use Rattle.std.specs.Prelude.{not, is_some, find}
use Rattle.boot_core.specs.Look.{len_in}
use Rattle.boot_core.proofs.Named.{named_here, named_later}
use Rattle.boot_core.proofs.hand.first_missing.Goals as goal

pub returns-then-not-is_stored : goal.returns-then-not-is_stored
returns-then-not-is_stored g c =
    sym (named_here (λ name. not (is_some (len_in (g.L.Look.stock c.args.look.now) name))) c.args.root.now c.args.books.now (ap not (sym c.is_stored.ensures ∙ c.if-not-is_stored.true)))

pub returns : goal.returns
returns g c =
    c.missing_in.ensures
    ∙ ap (find (λ name. not (is_some (len_in (g.L.Look.stock c.args.look.now) name)))) c.listed.ensures
    ∙ sym (named_later (λ name. not (is_some (len_in (g.L.Look.stock c.args.look.now) name))) c.args.root.now c.args.books.now (ap not (sym c.is_stored.ensures ∙ c.if-not-is_stored.false)))
