use Rattle.std.proofs.Common.{◌≡◌, ◌<◌, ℕ}
use Rattle.std.specs.List.{All}
use Rattle.turn_lock.specs.Sitting.{Has}
use Rattle.turn_lock_bench.proofs.work.seats.Given as goal

abbrev pub invariant-loop-lane : goal.invariant-loop-lane
invariant-loop-lane l = (l.first.lock ≡ l.lock) × (l.first.lane ≡ 0) × ((n : ℕ) → Has l.first.splits n → n < l.lane) × All (λ s. s.lock ≡ l.lock) l.all.items
