use Rattle.std.proofs.Common.{refl}
use Rattle.store_model.specs.Replies.{IsChecked}
use Rattle.plain_desk.proofs.Stores.{answered, tells, rests}
use Rattle.plain_desk.proofs.Answered.{checks}
use Rattle.plain_desk.proofs.Own.{apart, by_event, left_same, own_call}
use Rattle.plain_desk.proofs.store.Store.check.Goals as goal
use Rattle.plain_desk.proofs.store.Store.check.Goals.{in-Ok, in-Err}

pub invariant_of-self : goal.invariant_of-self
invariant_of-self c = answered c.args.lane (IsChecked c.args.dir.number c.args.file.now) c.check.result c.self.invariant c.check.ensures.ok c.check.ensures.err

pub returns-clause-event : goal.returns-clause-event
returns-clause-event c = λ tie. elim c.match-check.branch [
  | in-Ok w ↦ rw w.result-is (checks _ _ _ _ _ (tells (IsChecked c.args.dir.number c.args.file.now w.in-Ok.reply) c.self.view_is w.in-Ok.ensures.ok))
  | in-Err w ↦ rw w.result-is (rests c.self.view_is w.in-Err.ensures.err)
]

pub returns-clause-own : goal.returns-clause-own
returns-clause-own c = own_call c.args.lane c.self.inside.ledger c.self.view_is (left_same refl) (apart c.args.lane c.self.inside.ledger c.check.new.ledger c.check.result c.self.view_is (λ a t. by_event c.self.view_is t.notes t.its.steady) c.check.ensures.ok c.check.ensures.err)
