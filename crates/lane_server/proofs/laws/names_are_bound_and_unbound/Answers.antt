use Rattle.lane_server.proofs.Bindings.{stands_for_last, stands_for_none, stands_rebound, stands_unbound}
use Rattle.lane_server.proofs.laws.names_are_bound_and_unbound.Goals as goal

pub returns : goal.returns
returns c = record { bound = stands_for_last; unbound = stands_for_none; others = stands_rebound; kept = stands_unbound }
