use Rattle.std.proofs.Common.{[], get_or, arith}
use Rattle.pkg_names.specs.declared.root.Root.{Root}
use Rattle.collector.proofs.Tallies.{times_here}
use Rattle.collector.proofs.counts.lose_all.Goals as goal

pub lose_one-requires : goal.lose_one-requires
lose_one-requires c =
    let d : Root = record { 0 = [] } in
    let root = get_or c.args.roots.now c.loop-root.root-index d in
    omega (arith, c.loop-root.invariant root, c.requires root, times_here c.args.roots.now c.loop-root.root-index d c.loop-root-test.true)
