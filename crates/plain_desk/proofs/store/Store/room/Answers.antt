use Rattle.std.proofs.Common.{[], refl, ap}
use Rattle.store_model.specs.Replies.{IsRoom}
use Rattle.store_model.specs.Calls.{HoldsNewClaim}
use Rattle.store_model.specs.declared.events.Act.TheVariants as acts
use Rattle.store_model.specs.declared.replies.RoomReply.TheVariants as room
use Rattle.plain_desk.specs.Stores.{StoreOf, view_of}
use Rattle.plain_desk.proofs.Stores.{does, either, here, rests}
use Rattle.plain_desk.proofs.Claims.{roomless, room_made}
use Rattle.plain_desk.proofs.Own.{apart, by_event, left_by, own_call}
use Rattle.plain_desk.proofs.store.Store.room.Goals as goal
use Rattle.plain_desk.proofs.store.Store.room.Goals.{in-Ok-None, in-Ok-Some, in-Err}

pub room-requires-clause-claim : goal.room-requires-clause-claim
room-requires-clause-claim c = roomless c.self.inside.ledger c.args.lane c.args.claim.root c.self.invariant.holds
    (here c.self.inside.ledger (λ (s : StoreOf). HoldsNewClaim (view_of [] c.args.lane s) c.args.claim.root) c.self.view_is c.requires)

pub invariant_of-self : goal.invariant_of-self
invariant_of-self c = room_made c.args.lane c.args.len c.args.claim.root c.room.result c.self.invariant
    (here c.self.inside.ledger (λ (s : StoreOf). HoldsNewClaim (view_of [] c.args.lane s) c.args.claim.root) c.self.view_is c.requires)
    c.room.ensures.ok c.room.ensures.room c.room.ensures.short c.room.ensures.err c.room.ensures.none

pub returns-clause-event : goal.returns-clause-event
returns-clause-event c = λ tie. elim c.match-room.branch [
  | in-Ok-None w ↦ rw w.result-is (
    does (IsRoom c.args.claim.root c.args.len (room.Made c.args.claim)) c.self.view_is w.in-Ok-None.ensures.ok
        (ap (acts.Room c.args.claim.root c.args.len) w.in-Ok-None.field-0-is, refl),
    refl,
  )
  | in-Ok-Some w ↦ rw w.result-is (does (IsRoom c.args.claim.root c.args.len (room.Ended w.in-Ok-Some.end)) c.self.view_is w.in-Ok-Some.ensures.ok
      (ap (acts.Room c.args.claim.root c.args.len) w.in-Ok-Some.field-0-is, refl))
  | in-Err w ↦ rw w.result-is (rests c.self.view_is w.in-Err.ensures.err, refl)
]

pub returns-clause-own : goal.returns-clause-own
returns-clause-own c = own_call c.args.lane c.self.inside.ledger c.self.view_is (either c.room.result (λ end d. left_by d) (λ d. left_by d) c.room.ensures.room c.room.ensures.none) (apart c.args.lane c.self.inside.ledger c.room.new.ledger c.room.result c.self.view_is (λ a n. by_event c.self.view_is n refl) c.room.ensures.ok c.room.ensures.err)
