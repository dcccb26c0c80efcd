use Rattle.std.proofs.Common.{◌≡◌, ◌++◌, map, take}
use Rattle.package_indexes.specs.declared.Arriving.{Arriving}
use Rattle.package_indexes.proofs.lists.add_arriving.Given as goal

abbrev pub invariant-loop-arrival : goal.invariant-loop-arrival
invariant-loop-arrival l = l.roots.items ≡ l.fn.roots.items ++ map (λ (x : Arriving). x.root) (take l.arrival-index l.arriving)
