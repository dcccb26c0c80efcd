use Rattle.lane_server.proofs.Called.{commit_served}
use Rattle.lane_server.proofs.calls.commit.Goals as goal

pub returns-in_default : goal.returns-in_default
returns-in_default g c = λ repo.
    commit_served c.args.names.now.bindings (g.K.Desk.view c.args.desk.now) (g.K.Desk.view c.commit.new.self) repo (g.K.Desk.firm c.args.desk.now) (g.K.Desk.firm c.commit.new.self) c.commit.result c.in_default.not-NoMemory c.commit.ensures.event c.commit.ensures.firm
