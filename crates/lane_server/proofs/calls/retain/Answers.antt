use Rattle.lane_server.proofs.Called.{retain_served}
use Rattle.lane_server.proofs.calls.retain.Goals as goal

pub returns-in_default : goal.returns-in_default
returns-in_default g c = λ repo.
    retain_served c.args.names.now.bindings (g.K.Desk.view c.args.desk.now) (g.K.Desk.view c.retain.new.self) repo (g.K.Desk.firm c.args.desk.now) (g.K.Desk.firm c.retain.new.self) c.args.roots.now c.retain.result c.in_default.not-NoMemory c.retain.ensures.event c.retain.ensures.firm
