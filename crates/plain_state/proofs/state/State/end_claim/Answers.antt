use Rattle.std.proofs.Common.{List, ap, ◌∙◌}
use Rattle.fetch_queue.specs.Fetches.{without_claim}
use Rattle.store_model.specs.State.{State, Arrival}
use Rattle.store_model.specs.Acts.Marking.{ended}
use Rattle.plain_state.specs.contracts.state.State.{the_view}
use Rattle.plain_state.proofs.EachMarked.{joined_marked, marked_after}
use Rattle.plain_state.proofs.state.State.end_claim.Goals as goal

pub invariant_of-self : goal.invariant_of-self
invariant_of-self c =
    rw (c.end_claim.ensures, c.mark_each.ensures, c.arriving.ensures.list)
    (marked_after c.self.inside.books c.args.root.now c.args.end c.self.inside.indexes.arriving c.self.inside.indexes.arriving c.self.inside.queue.marks c.self.invariant)

pub returns : goal.returns
returns c =
    rw (c.end_claim.ensures, c.mark_each.ensures, c.arriving.ensures.list)
    (ap (λ (arriving : List Arrival). record (the_view c.self.inside) { claims = without_claim c.self.inside.queue.claims c.args.root.now; arriving = arriving })
    (joined_marked c.self.inside.books c.args.root.now c.args.end c.self.inside.indexes.arriving c.self.inside.queue.marks c.self.invariant c.arriving.ensures.distinct)
    ∙ ap (λ (s : State). ended s c.args.root.now c.args.end) c.self.view_is)
