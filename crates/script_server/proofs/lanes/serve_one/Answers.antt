use Rattle.script_server.proofs.Turns.{servable}
use Rattle.script_server.proofs.lanes.serve_one.Goals as goal

pub serve_lane-requires-clause-servable : goal.serve_lane-requires-clause-servable
serve_lane-requires-clause-servable g c = servable c.args.lane c.args.requests.now c.requires.servable
