use Rattle.std.proofs.Common.{Option, subst}
use Rattle.pkg_names.specs.declared.root.Root.{Root}
use Rattle.store_model.specs.State.{State}
use Rattle.store_model.specs.Acts.GaveUp.{next_gave_up}
use Rattle.plain_state.specs.Learning.{Forgets, listed}
use Rattle.plain_state.proofs.SettledActs.{gives_up}
use Rattle.plain_state.proofs.state.State.end_ticket.Goals as goal

pub returns : goal.returns
returns c =
    gives_up c.args.self.now c.args.ticket c.forget_found.new.self c.requires
    (subst (λ (o : Option Root). Forgets (listed o) (next_gave_up c.args.self.now c.args.ticket) c.forget_found.new.self) c.root_of_ticket-root.ensures
    (subst (λ (s : State). Forgets (listed c.root_of_ticket-root.result) s c.forget_found.new.self) c.give_up.ensures.given_up c.forget_found.ensures))
