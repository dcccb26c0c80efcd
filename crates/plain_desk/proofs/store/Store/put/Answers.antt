use Rattle.std.proofs.Common.{[], refl}
use Rattle.store_model.specs.Replies.{IsPut}
use Rattle.store_model.specs.Calls.{HoldsRoom}
use Rattle.store_model.specs.declared.replies.PutReply.TheVariants as put
use Rattle.plain_desk.specs.Stores.{StoreOf, view_of}
use Rattle.plain_desk.proofs.Stores.{does, here, rests, same_stays, unbroken_at}
use Rattle.plain_desk.proofs.Claims.{has_room, put_made}
use Rattle.plain_desk.proofs.Own.{by_event, left_put, own_call, put_apart}
use Rattle.plain_desk.proofs.store.Store.put.Goals as goal
use Rattle.plain_desk.proofs.store.Store.put.Goals.{in-None, in-Some}

pub put-requires-clause-room : goal.put-requires-clause-room
put-requires-clause-room c = has_room c.self.inside.ledger c.args.lane c.args.claim.root c.self.inside.drafts c.self.invariant.holds c.self.invariant.roomy
    (here c.self.inside.ledger (λ (s : StoreOf). HoldsRoom (view_of [] c.args.lane s) c.args.claim.root) c.self.view_is c.requires)

pub invariant_of-self : goal.invariant_of-self
invariant_of-self c = put_made c.args.lane c.args.claim.root c.args.bytes.now c.put.result c.self.invariant c.put.ensures.event c.put.ensures.fits c.put.ensures.drafts

pub returns-clause-event : goal.returns-clause-event
returns-clause-event c = λ tie. elim c.match-put.branch [
  | in-None w ↦ rw w.result-is (
    rests c.self.view_is (same_stays w.in-None.ensures.event c.self.invariant.holds),
    refl,
    unbroken_at (invariant_of-self c).holds (invariant_of-self c).unbroken,
  )
  | in-Some w ↦ rw w.result-is (does (IsPut c.args.claim.root (put.Ended w.in-Some.end)) c.self.view_is w.in-Some.ensures.event (refl, refl))
]

pub returns-clause-own : goal.returns-clause-own
returns-clause-own c = own_call c.args.lane c.self.inside.ledger c.self.view_is (left_put c.args.lane _ _ _ _ c.put.result c.put.ensures.drafts) (put_apart c.args.lane c.self.inside.ledger c.put.new.ledger c.put.result c.self.view_is (λ a n. by_event c.self.view_is n refl) c.put.ensures.event)
