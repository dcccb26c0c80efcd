use Rattle.std.proofs.Common.{List, sym, ap, ◌∙◌}
use Rattle.std.specs.Prelude.{option_copied}
use Rattle.std.specs.Option.{option_map}
use Rattle.package_indexes.specs.declared.Arriving.{Arriving}
use Rattle.package_indexes.specs.Sets.{arriving_with}
use Rattle.store_model.specs.State.{State, Arrival, arrival_of}
use Rattle.plain_state.proofs.Joined.{root_at_ticket}
use Rattle.plain_state.proofs.state.State.root_of_ticket.Goals as goal

pub returns-in-Some : goal.returns-in-Some
returns-in-Some c =
    ap (option_map (λ (a : Arriving). a.root)) (ap option_copied (sym c.in-Some.is) ∙ c.with_ticket.ensures ∙ ap (λ (xs : List Arriving). arriving_with xs c.args.ticket) c.arriving.ensures.list)
    ∙ sym (root_at_ticket c.self.inside.indexes.arriving c.self.inside.queue.marks c.args.ticket c.self.invariant)
    ∙ ap (λ (s : State). option_map (λ (a : Arrival). a.root) (arrival_of s.arriving c.args.ticket)) c.self.view_is

pub returns-in-None : goal.returns-in-None
returns-in-None c =
    ap (option_map (λ (a : Arriving). a.root)) (ap option_copied (sym c.in-None.is) ∙ c.with_ticket.ensures ∙ ap (λ (xs : List Arriving). arriving_with xs c.args.ticket) c.arriving.ensures.list)
    ∙ sym (root_at_ticket c.self.inside.indexes.arriving c.self.inside.queue.marks c.args.ticket c.self.invariant)
    ∙ ap (λ (s : State). option_map (λ (a : Arrival). a.root) (arrival_of s.arriving c.args.ticket)) c.self.view_is
