use Rattle.lane_steps.proofs.Kept.{as_much_opened}
use Rattle.lane_steps.proofs.keeping.open.Goals as goal

pub returns-clause-held : goal.returns-clause-held
returns-clause-held g c =
    as_much_opened c.in_ok-path.path c.open_path.result (g.K.Desk.view c.args.desk.now) (g.K.Desk.view c.open_path.new.self) c.open_path.ensures.event
