use Rattle.lane_server.proofs.Called.{check_served}
use Rattle.lane_server.proofs.calls.check.Goals as goal

pub returns-in_default : goal.returns-in_default
returns-in_default g c = λ repo.
    check_served c.args.names.now.bindings c.args.name.now c.args.file.now c.dir.result.number c.dir.ensures (g.K.Desk.view c.args.desk.now) (g.K.Desk.view c.check.new.self) repo (g.K.Desk.firm c.args.desk.now) (g.K.Desk.firm c.check.new.self) c.check.result c.in_default.not-NoMemory c.check.ensures.event c.check.ensures.firm
