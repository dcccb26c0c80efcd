use Rattle.std.proofs.Common.{refl}
use Rattle.store_model.specs.Replies.{IsCollected}
use Rattle.plain_desk.proofs.Stores.{cleared, does, rests}
use Rattle.plain_desk.proofs.Answered.{collects}
use Rattle.plain_desk.proofs.Own.{apart, by_event, left_same, own_call}
use Rattle.plain_desk.proofs.store.Store.collect.Goals as goal
use Rattle.plain_desk.proofs.store.Store.collect.Goals.{in-Ok, in-Err}

pub invariant_of-self : goal.invariant_of-self
invariant_of-self c = cleared c.args.lane IsCollected c.collect.result c.self.invariant c.collect.ensures.ok c.collect.ensures.err c.collect.ensures.bytes

pub returns-clause-event : goal.returns-clause-event
returns-clause-event c = λ tie. elim c.match-collect.branch [
  | in-Ok w ↦ rw w.result-is (collects _ _ _ (does (IsCollected w.in-Ok.reply) c.self.view_is w.in-Ok.ensures.ok.notes w.in-Ok.ensures.ok.its.its))
  | in-Err w ↦ rw w.result-is (rests c.self.view_is w.in-Err.ensures.err)
]

pub returns-clause-own : goal.returns-clause-own
returns-clause-own c = own_call c.args.lane c.self.inside.ledger c.self.view_is (left_same refl) (apart c.args.lane c.self.inside.ledger c.collect.new.ledger c.collect.result c.self.view_is (λ a t. by_event c.self.view_is t.notes t.its.steady) c.collect.ensures.ok c.collect.ensures.err)
