use Rattle.std.proofs.Common.{refl}
use Rattle.store_model.specs.Replies.{IsOpened}
use Rattle.plain_desk.proofs.Stores.{answered, tells, rests}
use Rattle.plain_desk.proofs.Answered.{opens}
use Rattle.plain_desk.proofs.Own.{apart, by_event, left_same, own_call}
use Rattle.plain_desk.proofs.store.Store.open_path.Goals as goal
use Rattle.plain_desk.proofs.store.Store.open_path.Goals.{in-Ok, in-Err}

pub invariant_of-self : goal.invariant_of-self
invariant_of-self c = answered c.args.lane (IsOpened c.args.path.now) c.open.result c.self.invariant c.open.ensures.ok c.open.ensures.err

pub returns-clause-event : goal.returns-clause-event
returns-clause-event c = λ tie. elim c.match-open.branch [
  | in-Ok w ↦ rw w.result-is (opens _ _ _ _ (tells (IsOpened c.args.path.now w.in-Ok.reply) c.self.view_is w.in-Ok.ensures.ok))
  | in-Err w ↦ rw w.result-is (rests c.self.view_is w.in-Err.ensures.err)
]

pub returns-clause-own : goal.returns-clause-own
returns-clause-own c = own_call c.args.lane c.self.inside.ledger c.self.view_is (left_same refl) (apart c.args.lane c.self.inside.ledger c.open.new.ledger c.open.result c.self.view_is (λ a t. by_event c.self.view_is t.notes t.its.steady) c.open.ensures.ok c.open.ensures.err)
