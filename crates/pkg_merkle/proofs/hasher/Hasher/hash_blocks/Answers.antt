use Rattle.std.proofs.Common.{◌≡◌, ◌+◌, ◌*◌, ◌/◌, ◌++◌, length, arith, length-append}
use Rattle.std.proofs.lemmas.List.{drop_at}
use Rattle.pkg_merkle.proofs.Levels.{TreeHolds-append}
use Rattle.pkg_merkle.proofs.Feeding.{StandsFor-whole}
use Rattle.pkg_merkle.proofs.hasher.Hasher.hash_blocks.Goals as goal

pub returns-clause-grown : goal.returns-clause-grown
returns-clause-grown c = λ blob held.
    let more = c.args.blocks.now in
    let count = held.count in
    let size = length-append blob more in
    let start = drop_at blob more (8192 * (c.args.self.now.length / 8192)) (omega arith) in
    let before = TreeHolds-append c.args.self.now.tree blob more (length blob / 8192) (omega arith) held.tree in
    let after = c.add_blocks.ensures (blob ++ more) start (rw count before) in
    let at : length (blob ++ more) / 8192 ≡ c.args.self.now.length / 8192 + length more / 8192 = omega arith in
    StandsFor-whole _ (blob ++ more) (omega arith) (omega arith) (omega arith) (rw at after)
