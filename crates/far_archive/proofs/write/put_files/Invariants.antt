use Rattle.std.proofs.Common.{◌≡◌, ◌++◌, take}
use Rattle.std.specs.List.{flat_map}
use Rattle.far_archive.specs.Written.{filled, listed}
use Rattle.far_archive.proofs.write.put_files.Given as goal

abbrev pub invariant-loop-entry : goal.invariant-loop-entry
invariant-loop-entry l = l.out.items ≡ l.fn.out.items ++ flat_map (λ file. filled 4096 file.1) (listed (take l.entry-index l.entries))
