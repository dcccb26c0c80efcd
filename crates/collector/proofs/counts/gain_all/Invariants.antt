use Rattle.std.proofs.Common.{◌≡◌, ◌+◌, take}
use Rattle.pkg_names.specs.declared.root.Root.{Root}
use Rattle.collector.specs.Counts.{count_of, times}
use Rattle.collector.proofs.counts.gain_all.Given as goal

abbrev pub invariant-loop-place : goal.invariant-loop-place
invariant-loop-place l =
    (root : Root) → count_of l.counts.entries root ≡ count_of l.fn.counts.entries root + times (take l.place l.roots) root
