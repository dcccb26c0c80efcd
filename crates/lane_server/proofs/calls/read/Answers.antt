use Rattle.std.proofs.Common.{refl}
use Rattle.script_lang.specs.declared.request.Ask.TheVariants as asks
use Rattle.lane_server.specs.Serving.{IsCut}
use Rattle.lane_server.proofs.Called.{read_served, rest_does}
use Rattle.lane_server.proofs.calls.read.Goals as goal
use Rattle.lane_server.proofs.calls.read.Goals.{in_default, in-NoMemory}

pub returns : goal.returns
returns g c = λ repo. elim c.match-read.branch [
  | in_default w ↦ rw w.result-is (read_served c.args.names.now.bindings c.args.name.now c.args.file.now c.dir.result.number c.dir.ensures (g.K.Desk.view c.args.desk.now) (g.K.Desk.view c.read.new.self) repo (g.K.Desk.firm c.args.desk.now) (g.K.Desk.firm c.read.new.self) c.read.result w.in_default.not-NoMemory c.read.ensures.event c.read.ensures.firm)
  | in-NoMemory w ↦ rw w.result-is (rest_does (g.K.Desk.view c.args.desk.now) (g.K.Desk.view c.read.new.self) repo (g.K.Desk.firm c.args.desk.now) (g.K.Desk.firm c.read.new.self) (IsCut (asks.Cat c.args.name.now c.args.file.now)) refl w.in-NoMemory.ensures.event w.in-NoMemory.ensures.firm)
]
