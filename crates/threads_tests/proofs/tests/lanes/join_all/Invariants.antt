use Rattle.std.proofs.Common.{◌≡◌, ◌<◌, ◌≤◌, ℕ, length}
use Rattle.turn_lock.specs.Sitting.{Has}
use Rattle.threads_tests.proofs.tests.lanes.join_all.Given as goal

abbrev pub invariant-loop-seat : goal.invariant-loop-seat
invariant-loop-seat l = record {
  lock : l.first.lock ≡ l.lock;
  first : l.first.lane ≡ 0;
  splits : l.first.splits ≡ l.initial.first.splits;
  ended : (n : ℕ) → 0 < n → n ≤ length l.yielded → Has l.first.ended n;
}
