use Rattle.std.proofs.Common.{◌<◌, length, arith}
use Rattle.plain_state.proofs.Looking.{forgets_none, forgets_seen_more}
use Rattle.plain_state.proofs.state.State.forget_seen.Goals as goal

pub loop-pair-init : goal.loop-pair-init
loop-pair-init c = forgets_none c.args.self.now

pub loop-pair-preserved : goal.loop-pair-preserved
loop-pair-preserved c =
    let within : c.loop-pair.pair-index < length c.args.seen.now = omega arith in
    forgets_seen_more c.args.seen.now c.loop-pair.pair-index c.pair-item.result c.args.self.now c.loop-pair.self c.forget.new.self within c.pair-item.is c.loop-pair.invariant c.forget.ensures
