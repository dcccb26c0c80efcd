use Rattle.std.proofs.Common.{◌≡◌, ◌++◌, map, take}
use Rattle.pkg_names.specs.declared.pinned.Pinned.{Pinned}
use Rattle.system_judge.proofs.judging.add_roots.Given as goal

abbrev pub invariant-loop-pair : goal.invariant-loop-pair
invariant-loop-pair l = l.roots.items ≡ l.fn.roots.items ++ map (λ (x : Pinned). x.root) (take l.pair-index l.pairs)
