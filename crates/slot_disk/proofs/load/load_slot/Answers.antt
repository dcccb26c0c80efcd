use Rattle.std.proofs.Common.{None}
use Rattle.slot_disk.proofs.LoadSteps.{found_none}
use Rattle.slot_disk.proofs.load.load_slot.Goals as goal

pub returns-then-not-needed-clause-found : goal.returns-then-not-needed-clause-found
returns-then-not-needed-clause-found g c =
    found_none c.args.needed c.args.geometry.now c.args.slot None (g.D.Disk.past c.args.disk.now) c.if-not-needed.true
