use Rattle.system_updater.proofs.Desks.{leave_goes}
use Rattle.system_updater.proofs.closing.leave.Goals as goal

pub returns : goal.returns
returns g c = λ next repo.
    leave_goes next (g.K.Desk.view c.args.desk.now) (g.K.Desk.view c.leave_stage.new.self) repo (g.K.Desk.firm c.args.desk.now) (g.K.Desk.firm c.leave_stage.new.self) c.leave_stage.ensures.event c.leave_stage.ensures.firm
