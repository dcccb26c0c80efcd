use Rattle.std.proofs.Common.{◌≡◌, ◌<◌, ◌+◌, ℕ, vec_len, get_or}
use Rattle.turn_lock.specs.Sitting.{Has}
use Rattle.threads_tests.proofs.tests.lanes.split_all.Given as goal

abbrev pub invariant-loop-lane : goal.invariant-loop-lane
invariant-loop-lane l = record {
  lock : l.first.lock ≡ l.lock;
  first : l.first.lane ≡ 0;
  count : vec_len l.all + 1 ≡ l.lane;
  splits : (n : ℕ) → Has l.first.splits n → (0 < n) × (n < l.lane);
  each : (i : ℕ) (d : _) → i < vec_len l.all → ((get_or l.all.items i d).lane ≡ i + 1) × ((get_or l.all.items i d).lock ≡ l.lock);
}
