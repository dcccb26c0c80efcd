use Rattle.std.proofs.Common.{refl}
use Rattle.store_model.specs.Replies.{IsActivated}
use Rattle.plain_desk.proofs.Stores.{answered, tells, rests}
use Rattle.plain_desk.proofs.Filled.{activates, held_sealed}
use Rattle.plain_desk.proofs.Own.{apart, by_event, left_same, own_call}
use Rattle.plain_desk.proofs.store.Store.activate.Goals as goal
use Rattle.plain_desk.proofs.store.Store.activate.Goals.{in-Ok, in-Err}

pub activate-requires-clause-stage : goal.activate-requires-clause-stage
activate-requires-clause-stage c = held_sealed c.self.view_is c.self.invariant.holds c.requires

pub invariant_of-self : goal.invariant_of-self
invariant_of-self c = answered c.args.lane IsActivated c.activate.result c.self.invariant c.activate.ensures.ok c.activate.ensures.err

pub returns-clause-event : goal.returns-clause-event
returns-clause-event c = λ tie. elim c.match-activate.branch [
  | in-Ok w ↦ rw w.result-is (activates _ _ _ (tells (IsActivated w.in-Ok.reply) c.self.view_is w.in-Ok.ensures.ok))
  | in-Err w ↦ rw w.result-is (rests c.self.view_is w.in-Err.ensures.err)
]

pub returns-clause-own : goal.returns-clause-own
returns-clause-own c = own_call c.args.lane c.self.inside.ledger c.self.view_is (left_same refl) (apart c.args.lane c.self.inside.ledger c.activate.new.ledger c.activate.result c.self.view_is (λ a t. by_event c.self.view_is t.notes t.its.steady) c.activate.ensures.ok c.activate.ensures.err)
