use Rattle.std.proofs.Common.{◌≡◌, ◌+◌, take}
use Rattle.pkg_names.specs.declared.root.Root.{Root}
use Rattle.collector.specs.Counts.{count_of, times}
use Rattle.collector.proofs.counts.lose_all.Given as goal

abbrev pub invariant-loop-root : goal.invariant-loop-root
invariant-loop-root l =
    (other : Root) → count_of l.counts.entries other + times (take l.root-index l.roots) other ≡ count_of l.fn.counts.entries other
