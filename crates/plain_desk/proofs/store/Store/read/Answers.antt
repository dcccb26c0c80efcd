use Rattle.std.proofs.Common.{refl}
use Rattle.store_model.specs.Replies.{IsRead}
use Rattle.plain_desk.proofs.Stores.{answered, tells, rests}
use Rattle.plain_desk.proofs.Answered.{reads}
use Rattle.plain_desk.proofs.Own.{apart, by_event, left_same, own_call}
use Rattle.plain_desk.proofs.store.Store.read.Goals as goal
use Rattle.plain_desk.proofs.store.Store.read.Goals.{in-Ok, in-Err}

pub invariant_of-self : goal.invariant_of-self
invariant_of-self c = answered c.args.lane (IsRead c.args.dir.number c.args.file.now) c.read.result c.self.invariant c.read.ensures.ok c.read.ensures.err

pub returns-clause-event : goal.returns-clause-event
returns-clause-event c = λ tie. elim c.match-read.branch [
  | in-Ok w ↦ rw w.result-is (reads _ _ _ _ _ (tells (IsRead c.args.dir.number c.args.file.now w.in-Ok.reply) c.self.view_is w.in-Ok.ensures.ok))
  | in-Err w ↦ rw w.result-is (rests c.self.view_is w.in-Err.ensures.err)
]

pub returns-clause-own : goal.returns-clause-own
returns-clause-own c = own_call c.args.lane c.self.inside.ledger c.self.view_is (left_same refl) (apart c.args.lane c.self.inside.ledger c.read.new.ledger c.read.result c.self.view_is (λ a t. by_event c.self.view_is t.notes t.its.steady) c.read.ensures.ok c.read.ensures.err)
