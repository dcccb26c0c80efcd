use Rattle.std.proofs.Common.{List, ap, ◌∙◌}
use Rattle.store_model.specs.State.{State, Arrival}
use Rattle.store_model.specs.Acts.GaveUp.{next_gave_up}
use Rattle.plain_state.specs.contracts.state.State.{the_view}
use Rattle.plain_state.proofs.Joined.{joined_without, marked_without}
use Rattle.plain_state.proofs.state.State.give_up.Goals as goal

pub invariant_of-self : goal.invariant_of-self
invariant_of-self c =
    rw (c.depart.ensures, c.delist.ensures) (marked_without c.self.inside.indexes.arriving c.self.inside.queue.marks c.args.ticket c.self.invariant)

pub returns-clause-given_up : goal.returns-clause-given_up
returns-clause-given_up c =
    rw (c.depart.ensures, c.delist.ensures)
    (ap (λ (arriving : List Arrival). record (the_view c.self.inside) { arriving = arriving }) (joined_without c.self.inside.indexes.arriving c.self.inside.queue.marks c.args.ticket c.self.invariant)
    ∙ ap (λ (s : State). next_gave_up s c.args.ticket) c.self.view_is)

pub returns-clause-failed : goal.returns-clause-failed
returns-clause-failed c number lane cause =
    rw (c.depart.ensures, c.delist.ensures)
    (ap (λ (arriving : List Arrival). record (the_view c.self.inside) { arriving = arriving }) (joined_without c.self.inside.indexes.arriving c.self.inside.queue.marks c.args.ticket c.self.invariant)
    ∙ ap (λ (s : State). next_gave_up s c.args.ticket) c.self.view_is)
