use Rattle.std.proofs.Common.{List, ap, ap₂, ◌∙◌}
use Rattle.pkg_names.specs.declared.pinned.Pinned.{Pinned}
use Rattle.store_model.specs.declared.ends.WantEnd.TheVariants as wants
use Rattle.store_model.specs.State.{State, Arrival, without_ticket}
use Rattle.store_model.specs.Acts.Want.{active_after_want}
use Rattle.plain_state.specs.contracts.state.State.{the_view}
use Rattle.plain_state.proofs.Joined.{joined_without, marked_without, activated_same}
use Rattle.plain_state.proofs.state.State.make_active.Goals as goal

pub invariant_of-self : goal.invariant_of-self
invariant_of-self c =
    rw (c.activate.ensures, c.delist.ensures) (marked_without c.self.inside.indexes.arriving c.self.inside.queue.marks c.args.ticket c.self.invariant)

pub returns : goal.returns
returns c =
    rw (c.activate.ensures, c.delist.ensures)
    (ap₂ (λ (arriving : List Arrival) (active : List Pinned). record (the_view c.self.inside) { arriving = arriving; active = active })
    (joined_without c.self.inside.indexes.arriving c.self.inside.queue.marks c.args.ticket c.self.invariant)
    (activated_same c.self.inside.indexes.base c.self.inside.indexes.active c.self.inside.indexes.arriving c.self.inside.queue.marks c.args.ticket c.self.invariant)
    ∙ ap (λ (s : State). record s { arriving = without_ticket s.arriving c.args.ticket; active = active_after_want s c.args.ticket wants.Opened }) c.self.view_is)
