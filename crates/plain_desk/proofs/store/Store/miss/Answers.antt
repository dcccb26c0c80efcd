use Rattle.std.proofs.Common.{[], refl, arith}
use Rattle.store_model.specs.Replies.{IsMissed}
use Rattle.store_model.specs.Calls.{HoldsClaim}
use Rattle.plain_desk.specs.Stores.{StoreOf, view_of}
use Rattle.plain_desk.proofs.Stores.{bytes_stay, does, drafted, here}
use Rattle.plain_desk.proofs.Claims.{missed_due}
use Rattle.plain_desk.proofs.Own.{by_event, left_by, own_call}
use Rattle.plain_desk.proofs.store.Store.miss.Goals as goal

pub miss-requires : goal.miss-requires
miss-requires c = missed_due c.self.inside.ledger c.args.lane c.args.claim.root c.self.invariant.holds
    (here c.self.inside.ledger (λ (s : StoreOf). HoldsClaim (view_of [] c.args.lane s) c.args.claim.root) c.self.view_is c.requires)

pub invariant_of-self : goal.invariant_of-self
invariant_of-self c = drafted c.self.invariant c.miss.ensures (bytes_stay c.self.invariant.stored c.miss.ensures refl)
    c.end.ensures.drafted refl (omega arith) (omega arith) refl

pub returns-clause-event : goal.returns-clause-event
returns-clause-event c = λ tie. does (IsMissed c.args.claim.root c.args.why) c.self.view_is c.miss.ensures (refl, refl)

pub returns-clause-own : goal.returns-clause-own
returns-clause-own c = own_call c.args.lane c.self.inside.ledger c.self.view_is (left_by c.end.ensures.drafted) (by_event c.self.view_is c.miss.ensures refl)
