use Rattle.std.proofs.Common.{◌<◌, length, arith}
use Rattle.plain_state.proofs.Looking.{forgets_none, forgets_more}
use Rattle.plain_state.proofs.state.State.forget_each.Goals as goal

pub loop-root-init : goal.loop-root-init
loop-root-init c = forgets_none c.args.self.now

pub loop-root-preserved : goal.loop-root-preserved
loop-root-preserved c =
    let within : c.loop-root.root-index < length c.args.roots.now = omega arith in
    forgets_more c.args.roots.now c.loop-root.root-index _ c.args.self.now c.loop-root.self c.forget.new.self within c.loop-root.invariant c.forget.ensures
