use Rattle.pkg_merkle.specs.Merkle.{block_input}
use Rattle.pkg_merkle.proofs.block.block_hash.Goals as goal

pub returns : goal.returns
unfolding block_input
returns c =
    let start = rw c.told_size.ensures at c.opened-hasher.ensures in
    let held = c.update.ensures _ start in
    let filled = c.add_zeros.ensures _ held in
    c.finalize.ensures _ filled
