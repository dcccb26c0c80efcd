use Rattle.std.proofs.Common.{◌≡◌, ◌*◌, ◌/◌, ◌%◌, length, arith, length-drop}
use Rattle.pkg_merkle.specs.Hasher.{open_block}
use Rattle.pkg_merkle.proofs.Growing.{block_input-partial}
use Rattle.pkg_merkle.proofs.level.Level.close.Goals as goal

pub returns : goal.returns
returns c = λ bytes size some above held.
    let at : length bytes / 8192 ≡ c.args.count / 256 = omega arith in
    let left : length (open_block bytes) ≡ 32 * (c.args.count % 256) = omega (arith, length-drop (8192 * (length bytes / 8192)) bytes) in
    let input = block_input-partial c.args.number (c.args.count / 256) (open_block bytes) above (omega arith) (omega arith) in
    let filled = c.add_zeros.ensures _ held.state in
    rw (input, left, ← at) (c.finalize.ensures _ filled)
