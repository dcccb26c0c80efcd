use Rattle.std.proofs.Common.{◌≡◌}
use Rattle.turn_lock_bench.proofs.work.strokes.Given as goal

abbrev pub invariant-loop : goal.invariant-loop
invariant-loop g l = (l.seat ≡ record l.initial.seat { seen = l.seat.seen; kept = l.seat.kept }) × (l.lane ≡ l.initial.seat.lane)
