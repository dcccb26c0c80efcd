use Rattle.store_model.proofs.CallsRest.{held_after_retain}
use Rattle.lane_steps.proofs.Kept.{as_much}
use Rattle.lane_steps.proofs.keeping.retain.Goals as goal

pub returns-clause-held : goal.returns-clause-held
returns-clause-held g c =
    as_much (g.K.Desk.view c.args.desk.now) (g.K.Desk.view c.retain.new.self) (held_after_retain c.args.roots.now c.retain.result (g.K.Desk.view c.args.desk.now) (g.K.Desk.view c.retain.new.self) c.retain.ensures.event)
