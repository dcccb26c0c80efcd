use Rattle.std.proofs.Common.{◌≡◌, length, take}
use Rattle.disk_model.proofs.LastPicks.{AreLastActs}
use Rattle.disk_model.proofs.last.note_all.Given as goal

abbrev pub invariant-loop-i : goal.invariant-loop-i
invariant-loop-i l = record {
  size : length l.last ≡ length l.fn.last;
  each : AreLastActs (take l.i l.acts) (length l.fn.last) l.last;
}
