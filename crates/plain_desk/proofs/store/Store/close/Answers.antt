use Rattle.std.proofs.Common.{refl, ap}
use Rattle.store_model.specs.Replies.{IsClosed}
use Rattle.store_model.specs.declared.events.Act.TheVariants as acts
use Rattle.store_model.specs.declared.replies.CloseReply.TheVariants as close
use Rattle.plain_desk.proofs.Stores.{moved, notes_moves, stays_moves, either, does, rests, not_open}
use Rattle.plain_desk.proofs.Own.{apart, by_event, left_same, own_call}
use Rattle.plain_desk.proofs.store.Store.close.Goals as goal
use Rattle.plain_desk.proofs.store.Store.close.Goals.{in-Ok-true, in-Ok-false, in-Err}

pub invariant_of-self : goal.invariant_of-self
invariant_of-self c = either c.close.result (λ u n. moved c.self.invariant (notes_moves n refl refl refl))
    (λ s. moved c.self.invariant (stays_moves s)) c.close.ensures.ok c.close.ensures.err

pub returns-clause-event : goal.returns-clause-event
returns-clause-event c = λ tie. elim c.match-close.branch [
  | in-Ok-true w ↦ rw w.result-is (does (IsClosed c.args.dir.number close.Closed) c.self.view_is w.in-Ok-true.ensures.ok (ap (acts.Close c.args.dir.number) w.in-Ok-true.field-0-test, refl))
  | in-Ok-false w ↦ rw w.result-is (does (IsClosed c.args.dir.number close.BadDir) c.self.view_is w.in-Ok-false.ensures.ok (ap (acts.Close c.args.dir.number) w.in-Ok-false.field-0-test, refl))
  | in-Err w ↦ rw w.result-is (rests c.self.view_is w.in-Err.ensures.err, not_open c.args.dir.number c.args.lane w.in-Err.ensures.err w.in-Err.ensures.open)
]

pub returns-clause-own : goal.returns-clause-own
returns-clause-own c = own_call c.args.lane c.self.inside.ledger c.self.view_is (left_same refl) (apart c.args.lane c.self.inside.ledger c.close.new.self c.close.result c.self.view_is (λ a n. by_event c.self.view_is n refl) c.close.ensures.ok c.close.ensures.err)
