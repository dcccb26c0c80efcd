use Rattle.std.proofs.Common.{◌≡◌}
use Rattle.threads_tests.proofs.tests.lanes.slow_turns.Given as goal

abbrev pub invariant-loop-number : goal.invariant-loop-number
invariant-loop-number g l = (l.seat ≡ record l.initial.seat { seen = l.seat.seen; kept = l.seat.kept }) × (l.lane ≡ l.initial.seat.lane)
