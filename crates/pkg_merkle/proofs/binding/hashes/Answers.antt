use Rattle.std.proofs.Common.{sym, ◌∙◌}
use Rattle.pkg_merkle.proofs.Growing.{first_hashes-zero}
use Rattle.pkg_merkle.proofs.Inputs.{length-block}
use Rattle.pkg_merkle.proofs.BindingLaw.{first_hashes-more}
use Rattle.pkg_merkle.proofs.binding.hashes.Goals as goal

pub loop-i-init : goal.loop-i-init
loop-i-init c = c.new-above.ensures.items ∙ sym (first_hashes-zero c.args.level c.args.bytes.now)

pub block_hash-hash-requires-clause-size : goal.block_hash-hash-requires-clause-size
block_hash-hash-requires-clause-size c = rw c.block_at.ensures (length-block c.args.bytes.now c.loop-i.i)

pub loop-i-preserved : goal.loop-i-preserved
loop-i-preserved c =
    first_hashes-more c.args.level c.loop-i.i c.args.bytes.now c.loop-i.above.items c.block_at.result.now c.block_hash-hash.result _
    c.loop-i.invariant c.block_at.ensures c.block_hash-hash.ensures c.in_ok-extend_from_slice.ensures.items
