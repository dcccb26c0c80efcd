use Rattle.std.proofs.Common.{◌≡◌, ◌++◌, length}
use Rattle.pkg_report.specs.Lines.{shown}
use Rattle.pkg_report.proofs.lines.push_shown.Given as goal

abbrev pub invariant-loop-rest : goal.invariant-loop-rest
invariant-loop-rest l = l.line.items ++ shown l.rest ≡ l.fn.line.items ++ shown l.name

abbrev pub decreases-loop-rest : goal.decreases-loop-rest
decreases-loop-rest l = length l.rest
