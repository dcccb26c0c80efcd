use Rattle.std.proofs.Common.{◌-◌}
use Rattle.far_archive.proofs.Order.{Excludes}
use Rattle.far_archive.proofs.archive.place_of.Given as goal

abbrev pub invariant-loop-low : goal.invariant-loop-low
invariant-loop-low l = Excludes l.bytes l.name l.low l.high

abbrev pub decreases-loop-low : goal.decreases-loop-low
decreases-loop-low l = l.high - l.low
