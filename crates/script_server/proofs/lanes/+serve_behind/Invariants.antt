use Rattle.script_server.proofs.lanes.+serve_behind.Given as goal

abbrev pub decreases-serve_behind : goal.decreases-serve_behind
decreases-serve_behind g l = l.count
