use Rattle.std.proofs.Common.{arith, refl}
use Rattle.turn_lock.specs.Rule.{log}
use Rattle.turn_lock.proofs.Ends.{starts_with}
use Rattle.turn_lock.proofs.turn.make_from.Goals as goal

pub new-requires : goal.new-requires
new-requires g c =
    starts_with (log g.T.Logged.entries g.T.Logged.by g.T.Logged.origin g.T.Logged.held) c.of-about.result.value c.args.value _ c.in_ok-slots.slots.items c.args.number (omega arith) (omega (arith, c.ranges.number)) refl refl c.of-about.ensures c.in_ok-slots.ensures.ok
