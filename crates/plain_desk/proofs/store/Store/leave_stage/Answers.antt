use Rattle.std.proofs.Common.{refl}
use Rattle.store_model.specs.Replies.{HasLeftStage}
use Rattle.plain_desk.proofs.Stores.{does, moved, notes_moves}
use Rattle.plain_desk.proofs.Filled.{held_stage}
use Rattle.plain_desk.proofs.Own.{by_event, left_same, own_call}
use Rattle.plain_desk.proofs.store.Store.leave_stage.Goals as goal

pub leave_stage-requires : goal.leave_stage-requires
leave_stage-requires c = held_stage _ c.self.view_is c.self.invariant.holds c.requires

pub invariant_of-self : goal.invariant_of-self
invariant_of-self c = moved c.self.invariant (notes_moves c.leave_stage.ensures refl refl refl)

pub returns-clause-event : goal.returns-clause-event
returns-clause-event c = λ tie. does HasLeftStage c.self.view_is c.leave_stage.ensures (refl, refl)

pub returns-clause-own : goal.returns-clause-own
returns-clause-own c = own_call c.args.lane c.self.inside.ledger c.self.view_is (left_same refl) (by_event c.self.view_is c.leave_stage.ensures refl)
