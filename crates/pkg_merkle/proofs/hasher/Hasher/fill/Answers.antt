use Rattle.std.proofs.Common.{◌≡◌, ◌+◌, ◌-◌, ◌/◌, ◌%◌, ◌++◌, length, arith, length-append}
use Rattle.pkg_merkle.proofs.Levels.{TreeHolds-append}
use Rattle.pkg_merkle.proofs.Feeding.{StandsFor-whole, block-fill, put_mid-end}
use Rattle.pkg_merkle.proofs.hasher.Hasher.fill.Goals as goal

pub returns-clause-grown : goal.returns-clause-grown
returns-clause-grown c = λ blob held.
    let more = c.args.bytes.now in
    let used = c.args.self.now.length % 8192 in
    let count = held.count in
    let size = length-append blob more in
    let full = put_mid-end c.args.self.now.buffer more used (8192 - used) (omega arith) in
    let contents = block-fill c.args.self.now blob more held (omega arith) in
    let before = TreeHolds-append c.args.self.now.tree blob more (length blob / 8192) (omega arith) held.tree in
    let after = c.add_block.ensures (blob ++ more) (rw (c.copy_from_slice.ensures.after, full, count) contents) (rw count before) in
    let at : length (blob ++ more) / 8192 ≡ c.args.self.now.length / 8192 + 1 = omega arith in
    StandsFor-whole _ (blob ++ more) (omega arith) (omega arith) (omega arith) (rw at after)
