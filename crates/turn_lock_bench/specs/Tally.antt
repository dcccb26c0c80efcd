-- How a tally is read.
use Rattle.std.specs.Prelude.{ℕ}
use Rattle.turn_lock.specs.Rule.{Log, log}
use Rattle.turn_lock_bench.specs.declared.work.Stroke.{Stroke}
use Rattle.turn_lock_bench.specs.declared.work.Tally.{Tally}

abbrev pub tally_log : Log Tally Stroke ℕ (Unit {0})
tally_log = log (λ t. t.strokes.items) (λ e. e.lane) (λ t. t.name) (λ lane t. tt)
