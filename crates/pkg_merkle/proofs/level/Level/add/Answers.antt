use Rattle.std.proofs.Common.{arith}
use Rattle.pkg_merkle.proofs.Growing.{filled-none, filled-some}
use Rattle.pkg_merkle.proofs.level.Level.add.Goals as goal

pub returns-then-index-clause-filled : goal.returns-then-index-clause-filled
returns-then-index-clause-filled c = λ bytes size held. filled-none c.args.number c.args.index bytes c.args.hash.now size (omega arith)

pub returns-clause-filled : goal.returns-clause-filled
returns-clause-filled c = λ bytes size held.
    let added = c.update.ensures _ held.state in
    filled-some c.args.number c.args.index bytes c.args.hash.now c.finalize.result size (omega arith) (omega arith)
    (c.finalize.ensures _ (rw (c.replace-whole.ensures.value, ← c.as_slice.ensures) added))
