use Rattle.pkg_merkle.proofs.Inputs.{length-block}
use Rattle.pkg_merkle.proofs.binding.input_at.Goals as goal

pub block_input-requires-clause-size : goal.block_input-requires-clause-size
block_input-requires-clause-size c = rw c.block_at.ensures (length-block c.args.bytes.now c.args.i)
