use Rattle.std.proofs.Common.{◌≡◌, ◌++◌, take}
use Rattle.far_archive.specs.Written.{joined_names, listed}
use Rattle.far_archive.proofs.write.put_names.Given as goal

abbrev pub invariant-loop-entry : goal.invariant-loop-entry
invariant-loop-entry l = l.out.items ≡ l.fn.out.items ++ joined_names (listed (take l.entry-index l.entries))
