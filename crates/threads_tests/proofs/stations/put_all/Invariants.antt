use Rattle.std.proofs.Common.{◌≤◌}
use Rattle.threads_tests.specs.Depot.{PutTimes}
use Rattle.threads_tests.proofs.stations.put_all.Given as goal

abbrev pub invariant-loop-turn : goal.invariant-loop-turn
invariant-loop-turn g l = PutTimes l.piece l.count l.initial.seat l.seat × (l.count ≤ l.turn)
