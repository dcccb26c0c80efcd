use Rattle.std.proofs.Common.{◌≤◌, take}
use Rattle.script_lang.specs.Text.{text}
use Rattle.pkg_tool.specs.Printing.{Prints}
use Rattle.pkg_tool.proofs.print.print.Given as goal

abbrev pub invariant-loop-place : goal.invariant-loop-place
invariant-loop-place g l = record {
  prints : Prints (g.W.Sink.written l.fn.out) (g.W.Sink.written l.out) l.lines.items (text (take l.place l.history));
  faults : g.W.Sink.faults l.fn.out ≤ g.W.Sink.faults l.out;
}
