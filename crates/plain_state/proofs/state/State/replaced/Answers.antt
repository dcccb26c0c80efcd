use Rattle.std.proofs.Common.{List, refl, sym, ap, ◌∙◌}
use Rattle.std.specs.Prelude.{option_copied}
use Rattle.package_indexes.specs.declared.Arriving.{Arriving}
use Rattle.package_indexes.specs.Sets.{arriving_with}
use Rattle.store_model.specs.State.{State}
use Rattle.plain_state.specs.Opening.{replaced}
use Rattle.plain_state.specs.contracts.state.State.{the_view}
use Rattle.plain_state.proofs.Joined.{replaced_from, replaced_at}
use Rattle.plain_state.proofs.state.State.replaced.Goals as goal

pub returns-in-Some : goal.returns-in-Some
returns-in-Some c =
    c.replaced_in.ensures
    ∙ ap (replaced_from (the_view c.self.inside))
    (ap option_copied (sym c.in-Some.is) ∙ c.with_ticket.ensures ∙ ap (λ (xs : List Arriving). arriving_with xs c.args.ticket) c.arriving.ensures.list)
    ∙ sym (replaced_at (the_view c.self.inside) c.self.inside.indexes.arriving c.self.inside.queue.marks c.args.ticket c.self.invariant refl)
    ∙ ap (λ (s : State). replaced s c.args.ticket) c.self.view_is

pub returns-in-None : goal.returns-in-None
returns-in-None c =
    ap (replaced_from (the_view c.self.inside))
    (ap option_copied (sym c.in-None.is) ∙ c.with_ticket.ensures ∙ ap (λ (xs : List Arriving). arriving_with xs c.args.ticket) c.arriving.ensures.list)
    ∙ sym (replaced_at (the_view c.self.inside) c.self.inside.indexes.arriving c.self.inside.queue.marks c.args.ticket c.self.invariant refl)
    ∙ ap (λ (s : State). replaced s c.args.ticket) c.self.view_is
