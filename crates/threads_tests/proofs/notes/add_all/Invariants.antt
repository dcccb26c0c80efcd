use Rattle.std.proofs.Common.{◌≡◌, ◌+◌, ◌≤◌, length}
use Rattle.turn_lock.specs.Sitting.{mine}
use Rattle.threads_tests.proofs.notes.add_all.Given as goal

abbrev pub invariant-loop-number : goal.invariant-loop-number
invariant-loop-number g l = record {
  seat : l.seat ≡ record l.initial.seat { seen = l.seat.seen; kept = l.seat.kept };
  lane : l.lane ≡ l.initial.seat.lane;
  count : length (mine (λ n. n.notes.items) (λ e. e.lane) l.seat) ≡ length (mine (λ n. n.notes.items) (λ e. e.lane) l.initial.seat) + l.count;
  few : l.count ≤ l.number;
}
