use Rattle.lane_server.proofs.Called.{close_served}
use Rattle.lane_server.proofs.calls.close.Goals as goal

pub returns-in_default : goal.returns-in_default
returns-in_default g c = λ repo.
    close_served c.args.names.now.bindings c.unbind.new.self.bindings c.args.name.now c.dir-dir.result.number c.dir-dir.ensures c.unbind.ensures (g.K.Desk.view c.args.desk.now) (g.K.Desk.view c.close.new.self) repo (g.K.Desk.firm c.args.desk.now) (g.K.Desk.firm c.close.new.self) c.close.result c.in_default.not-NoMemory c.close.ensures.event c.close.ensures.firm
