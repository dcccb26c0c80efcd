use Rattle.lane_steps.proofs.Staged.{free_left}
use Rattle.lane_steps.proofs.filling.leave.Goals as goal

pub returns-clause-hand : goal.returns-clause-hand
returns-clause-hand g c =
    free_left (g.K.Desk.view c.args.desk.now) (g.K.Desk.view c.leave_stage.new.self) c.leave_stage.ensures.event c.requires.free
