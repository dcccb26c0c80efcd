use Rattle.std.proofs.Common.{[]}
use Rattle.pkg_merkle.specs.Merkle.{head}
use Rattle.pkg_merkle.proofs.block.opened.Goals as goal

pub returns : goal.returns
unfolding head
returns c =
    let offset = c.update.ensures [] c.new-hasher.ensures in
    let both = c.update-2.ensures _ offset in
    rw (c.to_le_bytes.ensures, c.to_le_bytes-2.ensures) at both
