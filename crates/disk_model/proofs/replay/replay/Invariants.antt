use Rattle.std.proofs.Common.{◌≡◌, take}
use Rattle.disk_model.specs.Images.{contents_after}
use Rattle.disk_model.proofs.replay.replay.Given as goal

abbrev pub invariant-loop-act : goal.invariant-loop-act
invariant-loop-act l = l.pages ≡ contents_after (take l.act-index l.acts) l.fn.pages
