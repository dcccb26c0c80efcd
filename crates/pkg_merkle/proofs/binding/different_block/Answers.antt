use Rattle.std.proofs.Common.{◌-◌, arith}
use Rattle.pkg_merkle.proofs.BindingLaw.{last-apart}
use Rattle.pkg_merkle.proofs.binding.different_block.Goals as goal

pub returns-clause-apart : goal.returns-clause-apart
returns-clause-apart c =
    let last = c.block_count-last.result - 1 in
    last-apart c.args.a.now c.args.b.now last c.requires.count (omega arith) (λ j less. c.loop-i.invariant j (omega arith)) c.requires.apart
