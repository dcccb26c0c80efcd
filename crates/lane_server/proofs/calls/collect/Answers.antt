use Rattle.std.proofs.Common.{refl}
use Rattle.script_lang.specs.declared.request.Ask.TheVariants as asks
use Rattle.lane_server.specs.Serving.{IsCut}
use Rattle.lane_server.proofs.Called.{collect_served, rest_does}
use Rattle.lane_server.proofs.calls.collect.Goals as goal
use Rattle.lane_server.proofs.calls.collect.Goals.{in_default, in-NoMemory}

pub returns : goal.returns
returns g c = λ repo. elim c.match-collect.branch [
  | in_default w ↦ rw w.result-is (collect_served c.args.names.now.bindings (g.K.Desk.view c.args.desk.now) (g.K.Desk.view c.collect.new.self) repo (g.K.Desk.firm c.args.desk.now) (g.K.Desk.firm c.collect.new.self) c.collect.result w.in_default.not-NoMemory c.collect.ensures.event c.collect.ensures.firm)
  | in-NoMemory w ↦ rw w.result-is (rest_does (g.K.Desk.view c.args.desk.now) (g.K.Desk.view c.collect.new.self) repo (g.K.Desk.firm c.args.desk.now) (g.K.Desk.firm c.collect.new.self) (IsCut asks.Collect) refl w.in-NoMemory.ensures.event w.in-NoMemory.ensures.firm)
]
