use Rattle.store_model.proofs.LanesDue.{waits_after}
use Rattle.store_model.proofs.LanesQuiet.{knows_always}
use Rattle.store_model.proofs.lane_laws.lanes_wait_where_it_is_quiet.Goals as goal

pub returns-clause-known : goal.returns-clause-known
returns-clause-known c = knows_always

pub returns-clause-history : goal.returns-clause-history
returns-clause-history c = waits_after
