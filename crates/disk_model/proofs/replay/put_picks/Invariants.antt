use Rattle.std.proofs.Common.{take}
use Rattle.disk_model.specs.Picks.{AreGood, Takes}
use Rattle.disk_model.proofs.PickLemmas.{Marks}
use Rattle.disk_model.proofs.replay.put_picks.Given as goal

abbrev pub invariant-loop-n : goal.invariant-loop-n
invariant-loop-n l = record {
  good : AreGood l.acts (take l.n l.picks);
  takes : Takes l.acts (take l.n l.picks) l.fn.pages l.pages;
  marks : Marks (take l.n l.picks) l.marks;
}
