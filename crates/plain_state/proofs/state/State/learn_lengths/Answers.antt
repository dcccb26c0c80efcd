use Rattle.std.proofs.Common.{◌<◌, length, sym, subst, arith}
use Rattle.store_model.specs.State.{State}
use Rattle.plain_state.specs.Learning.{LearnsAmong}
use Rattle.plain_state.proofs.Looking.{at_err}
use Rattle.plain_state.proofs.Learned.{lengths_none, lengths_more, among_lengths, among_fewer}
use Rattle.plain_state.proofs.state.State.learn_lengths.Goals as goal

pub loop-root-init : goal.loop-root-init
loop-root-init c = lengths_none c.args.self.now

pub loop-root-preserved : goal.loop-root-preserved
loop-root-preserved c =
    let within : c.loop-root.root-index < length c.args.roots.now = omega arith in
    lengths_more c.args.roots.now c.loop-root.root-index _ c.args.self.now c.loop-root.self c.learn_length.new.self within c.loop-root.invariant c.in_ok-learn_length.ensures.ok

pub returns-in_err-learn_length-clause-err : goal.returns-in_err-learn_length-clause-err
returns-in_err-learn_length-clause-err c =
    at_err c.from_residual.result _
    (subst (λ (s : State). LearnsAmong c.args.roots.now c.args.self.now s) (sym c.in_err-learn_length.ensures.err)
    (among_fewer c.args.roots.now c.loop-root.root-index c.args.self.now c.loop-root.self (among_lengths _ c.args.self.now c.loop-root.self c.loop-root.invariant)))
