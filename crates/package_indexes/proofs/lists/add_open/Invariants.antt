use Rattle.std.proofs.Common.{◌≡◌, ◌++◌, map, take}
use Rattle.open_tracker.specs.declared.dirs.DirEntry.{DirEntry}
use Rattle.package_indexes.proofs.lists.add_open.Given as goal

abbrev pub invariant-loop-dir : goal.invariant-loop-dir
invariant-loop-dir l = l.roots.items ≡ l.fn.roots.items ++ map (λ (x : DirEntry). x.root) (take l.dir-index l.dirs)
