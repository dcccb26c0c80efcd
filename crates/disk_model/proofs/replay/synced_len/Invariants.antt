use Rattle.std.proofs.Common.{◌≡◌, take}
use Rattle.disk_model.specs.Picks.{synced_len}
use Rattle.disk_model.proofs.replay.synced_len.Given as goal

abbrev pub invariant-loop-i : goal.invariant-loop-i
invariant-loop-i l = l.synced ≡ synced_len (take l.i l.acts)
