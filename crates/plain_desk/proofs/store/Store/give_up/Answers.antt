use Rattle.std.proofs.Common.{refl, []}
use Rattle.store_model.specs.Replies.{IsGivenUp}
use Rattle.store_model.specs.Calls.{HoldsTicket}
use Rattle.plain_desk.specs.Stores.{StoreOf, view_of}
use Rattle.plain_desk.proofs.Stores.{moved, notes_moves, does, here}
use Rattle.plain_desk.proofs.Wants.{give_up_due}
use Rattle.plain_desk.proofs.Own.{by_event, left_same, own_call}
use Rattle.plain_desk.proofs.store.Store.give_up.Goals as goal

pub give_up-requires : goal.give_up-requires
give_up-requires c = give_up_due c.self.inside.ledger c.args.lane c.args.ticket c.self.invariant.holds
    (here c.self.inside.ledger (λ (s : StoreOf). HoldsTicket (view_of [] c.args.lane s) c.args.ticket) c.self.view_is c.requires)

pub invariant_of-self : goal.invariant_of-self
invariant_of-self c = moved c.self.invariant (notes_moves c.give_up.ensures refl refl refl)

pub returns-clause-event : goal.returns-clause-event
returns-clause-event c = λ tie. does (IsGivenUp c.args.ticket.number) c.self.view_is c.give_up.ensures (refl, refl)

pub returns-clause-own : goal.returns-clause-own
returns-clause-own c = own_call c.args.lane c.self.inside.ledger c.self.view_is (left_same refl) (by_event c.self.view_is c.give_up.ensures refl)
