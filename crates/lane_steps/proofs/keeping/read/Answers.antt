use Rattle.store_model.proofs.CallsRest.{held_after_read}
use Rattle.lane_steps.proofs.Kept.{as_much}
use Rattle.lane_steps.proofs.Grown.{grows_read}
use Rattle.lane_steps.proofs.keeping.read.Goals as goal

pub returns-clause-held : goal.returns-clause-held
returns-clause-held g c =
    as_much (g.K.Desk.view c.args.desk.now) (g.K.Desk.view c.read.new.self) (held_after_read c.args.dir c.in_ok-file.file c.read.result (g.K.Desk.view c.args.desk.now) (g.K.Desk.view c.read.new.self) c.read.ensures.event)

pub returns-clause-grows : goal.returns-clause-grows
returns-clause-grows g c =
    grows_read c.args.dir c.in_ok-file.file c.read.result (g.K.Desk.view c.args.desk.now) (g.K.Desk.view c.read.new.self) c.read.ensures.event
