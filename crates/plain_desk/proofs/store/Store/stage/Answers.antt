use Rattle.std.proofs.Common.{refl}
use Rattle.plain_desk.proofs.Filled.{staged, stages, stage_keeps}
use Rattle.plain_desk.proofs.Own.{left_same, own_call, stage_apart}
use Rattle.plain_desk.proofs.store.Store.stage.Goals as goal

pub invariant_of-self : goal.invariant_of-self
invariant_of-self c = staged _ _ c.stage-reply.result c.self.invariant c.stage-reply.ensures c.empty_at_turn.ensures

pub returns-clause-event : goal.returns-clause-event
returns-clause-event c = λ tie. stages tie c.args.lane c.args.epoch c.stage-reply.result c.self.inside.ledger c.stage-reply.new.ledger _ c.self.view_is c.stage-reply.ensures

pub returns-clause-kept : goal.returns-clause-kept
returns-clause-kept c = stage_keeps c.args.lane c.stage-reply.result c.self.inside.ledger c.stage-reply.new.ledger c.self.view_is c.empty_at_turn.ensures

pub returns-clause-own : goal.returns-clause-own
returns-clause-own c = own_call c.args.lane c.self.inside.ledger c.self.view_is (left_same refl) (stage_apart c.args.lane c.args.epoch c.self.inside.ledger c.stage-reply.new.ledger c.stage-reply.result c.self.view_is c.stage-reply.ensures)
