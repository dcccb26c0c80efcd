use Rattle.std.proofs.Common.{[], get_or, arith}
use Rattle.pkg_names.specs.declared.root.Root.{Root}
use Rattle.collector.proofs.Tallies.{times_here}
use Rattle.collector.proofs.counts.gain_all.Goals as goal

pub gain_one-requires : goal.gain_one-requires
gain_one-requires c =
    let d : Root = record { 0 = [] } in
    let root = get_or c.args.roots.now c.loop-place.place d in
    omega (arith, c.loop-place.invariant root, c.requires root, times_here c.args.roots.now c.loop-place.place d c.loop-place-test.true)
