use Rattle.store_model.proofs.CallsRest.{held_after_check}
use Rattle.lane_steps.proofs.Kept.{as_much}
use Rattle.lane_steps.proofs.keeping.check.Goals as goal

pub returns-clause-held : goal.returns-clause-held
returns-clause-held g c =
    as_much (g.K.Desk.view c.args.desk.now) (g.K.Desk.view c.check.new.self) (held_after_check c.args.dir c.in_ok-file.file c.check.result (g.K.Desk.view c.args.desk.now) (g.K.Desk.view c.check.new.self) c.check.ensures.event)
