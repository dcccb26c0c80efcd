use Rattle.std.proofs.Common.{arith, sym, subst}
use Rattle.threads_tests.specs.Depot.{PutTimes}
use Rattle.threads_tests.proofs.Depots.{puts_then, puts_rest}
use Rattle.threads_tests.proofs.stations.put_all.Goals.{then-done, else-done}
use Rattle.threads_tests.proofs.stations.put_all.Goals as goal

pub loop-turn-preserved : goal.loop-turn-preserved
loop-turn-preserved g c = elim c.if-done.branch [
  | then-done w ↦ (
    subst (λ n. PutTimes c.args.piece.now n c.args.seat c.put-next.result.0) (sym w.count-is) (puts_then c.args.piece.now c.loop-turn.count c.args.seat c.loop-turn.seat c.put-next.result.0 c.loop-turn.invariant.0 (c.put-next.ensures.done w.if-done.true)),
    omega (arith, w.count-is, c.loop-turn.invariant.1),
  )
  | else-done w ↦ (
    subst (λ n. PutTimes c.args.piece.now n c.args.seat c.put-next.result.0) (sym w.count-is) (puts_rest c.args.piece.now c.loop-turn.count c.args.seat c.loop-turn.seat c.put-next.result.0 c.loop-turn.invariant.0 (c.put-next.ensures.refused w.if-done.false)),
    omega (arith, w.count-is, c.loop-turn.invariant.1),
  )
]
