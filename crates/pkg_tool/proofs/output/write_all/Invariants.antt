use Rattle.std.proofs.Common.{length, ◌-◌, ◌≤◌, take}
use Rattle.pkg_tool.specs.Written.{Wrote}
use Rattle.pkg_tool.proofs.output.write_all.Given as goal

abbrev pub invariant-loop-done : goal.invariant-loop-done
invariant-loop-done g l = record {
  within : l.done ≤ length l.bytes;
  so_far : Wrote (g.W.Sink.written l.fn.out) (take l.done l.bytes) (g.W.Sink.written l.out);
  faults : g.W.Sink.faults l.fn.out ≤ g.W.Sink.faults l.out;
}

abbrev pub decreases-loop-done : goal.decreases-loop-done
decreases-loop-done g l = length l.bytes - l.done
