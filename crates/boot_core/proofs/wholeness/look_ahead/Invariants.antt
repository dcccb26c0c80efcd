use Rattle.std.proofs.Common.{◌≡◌, ◌≤◌}
use Rattle.boot_core.specs.Seen.{AreSeen}
use Rattle.boot_core.proofs.wholeness.look_ahead.Given as goal

abbrev pub invariant-loop-pair : goal.invariant-loop-pair
invariant-loop-pair g l =
    (AreSeen (g.L.Look.stock l.fn.look) (g.L.Look.blobs l.fn.look) l.fn.seen → AreSeen (g.L.Look.stock l.fn.look) (g.L.Look.blobs l.fn.look) l.seen)
    × (g.L.Look.stock l.look ≡ g.L.Look.stock l.fn.look)
    × (g.L.Look.blobs l.look ≡ g.L.Look.blobs l.fn.look)
    × (g.L.Look.faults l.fn.look ≤ g.L.Look.faults l.look)
