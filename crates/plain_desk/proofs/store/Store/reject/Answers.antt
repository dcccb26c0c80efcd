use Rattle.std.proofs.Common.{refl}
use Rattle.store_model.specs.Replies.{IsRejected}
use Rattle.store_model.specs.declared.replies.RejectReply.TheVariants as reject
use Rattle.plain_desk.proofs.Stores.{moved, notes_moves, stays_moves, either, does, rests}
use Rattle.plain_desk.proofs.Own.{apart, by_event, left_same, own_call}
use Rattle.plain_desk.proofs.store.Store.reject.Goals as goal
use Rattle.plain_desk.proofs.store.Store.reject.Goals.{in-Ok, in-Err}

pub invariant_of-self : goal.invariant_of-self
invariant_of-self c = either c.note.result (λ u n. moved c.self.invariant (notes_moves n refl refl refl))
    (λ s. moved c.self.invariant (stays_moves s)) c.note.ensures.ok c.note.ensures.err

pub returns-clause-event : goal.returns-clause-event
returns-clause-event c = λ tie. elim c.match-note.branch [
  | in-Ok w ↦ rw w.result-is (does (IsRejected c.args.file c.args.why reject.Noted) c.self.view_is w.in-Ok.ensures.ok (refl, refl))
  | in-Err w ↦ rw w.result-is (rests c.self.view_is w.in-Err.ensures.err)
]

pub returns-clause-own : goal.returns-clause-own
returns-clause-own c = own_call c.args.lane c.self.inside.ledger c.self.view_is (left_same refl) (apart c.args.lane c.self.inside.ledger c.note.new.self c.note.result c.self.view_is (λ a n. by_event c.self.view_is n refl) c.note.ensures.ok c.note.ensures.err)
