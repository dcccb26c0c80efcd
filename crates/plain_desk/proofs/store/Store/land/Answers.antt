use Rattle.std.proofs.Common.{[], refl, sym, subst}
use Rattle.store_model.specs.Calls.{HoldsRoom, room_by}
use Rattle.store_model.specs.Desk.{Does}
use Rattle.store_model.specs.Replies.{IsLanded}
use Rattle.store_model.specs.declared.replies.LandReply.TheVariants as land
use Rattle.fetch_queue.specs.declared.FetchEnd.{FetchEnd}
use Rattle.plain_desk.specs.Stores.{StoreOf, view_of}
use Rattle.plain_desk.proofs.Stores.{either, here, rests, view_at}
use Rattle.plain_desk.proofs.Claims.{has_room}
use Rattle.plain_desk.proofs.Landing.{land_made, landed, landing_ended, stored_as}
use Rattle.plain_desk.proofs.Own.{apart, landed_apart, left_by, left_same, own_call}
use Rattle.plain_desk.proofs.store.Store.land.Goals as goal
use Rattle.plain_desk.proofs.store.Store.land.Goals.{in-Ok-None, in-Ok-Some, in-Err}

pub land-requires-clause-claim : goal.land-requires-clause-claim
land-requires-clause-claim c = has_room c.self.inside.ledger c.args.lane c.args.claim.root c.self.inside.drafts c.self.invariant.holds c.self.invariant.roomy
    (here c.self.inside.ledger (λ (s : StoreOf). HoldsRoom (view_of [] c.args.lane s) c.args.claim.root) c.self.view_is c.requires)

pub invariant_of-self : goal.invariant_of-self
invariant_of-self c = land_made c.args.lane c.args.claim.root _ _ c.land.result c.self.invariant c.land.ensures.ok c.land.ensures.err
    c.land.ensures.ended c.land.ensures.kept c.land.ensures.blobs

pub returns-clause-event : goal.returns-clause-event
returns-clause-event c = λ tie. elim c.match-land.branch [
  | in-Ok-None w ↦
      let h = stored_as c.args.lane c.args.claim.root _ _ c.self.inside.ledger c.land.new.ledger w.in-Ok-None.field-0-is w.in-Ok-None.ensures.ok in
      rw w.result-is (landed c.args.claim.root c.self.view_is c.self.invariant.roomy h.0 h.2)
  | in-Ok-Some w ↦
      let h = stored_as c.args.lane c.args.claim.root _ _ c.self.inside.ledger c.land.new.ledger w.in-Ok-Some.field-0-is w.in-Ok-Some.ensures.ok in
      rw w.result-is (subst (λ (end : FetchEnd). Does (view_of tie c.args.lane c.args.self.now) (view_at tie c.args.lane c.land.new.ledger c.self.inside.images.fillers)
      (IsLanded c.args.claim.root (room_by (view_of tie c.args.lane c.args.self.now)) (land.Ended end))) (sym w.in-Ok-Some.end-is)
      (landing_ended c.args.claim.root w.in-Ok-Some.end c.self.view_is c.self.invariant.roomy h.1))
  | in-Err w ↦ rw w.result-is (rests c.self.view_is w.in-Err.ensures.err, refl)
]

pub returns-clause-own : goal.returns-clause-own
returns-clause-own c = own_call c.args.lane c.self.inside.ledger c.self.view_is (either c.land.result (λ end d. left_by d) (λ same. left_same same) c.land.ensures.ended c.land.ensures.kept) (apart c.args.lane c.self.inside.ledger c.land.new.ledger c.land.result c.self.view_is (λ end so. landed_apart c.args.lane c.self.inside.ledger c.land.new.ledger c.args.claim.root _ _ c.self.view_is end so) c.land.ensures.ok c.land.ensures.err)
