use Rattle.std.proofs.Common.{ℕ, List, ◌/◌, arith}
use Rattle.pkg_merkle.specs.Merkle.{first_hashes}
use Rattle.pkg_merkle.proofs.RootLemmas.{length-first_hashes}
use Rattle.pkg_merkle.proofs.Levels.{hashes-whole, hashes-open}
use Rattle.pkg_merkle.proofs.tree.Tree.closed.Goals as goal

pub returns-then-count-eq0 : goal.returns-then-count-eq0
returns-then-count-eq0 c = λ bytes is held. rw (hashes-whole bytes c.args.count is (omega arith)) held.above

pub returns : goal.returns
returns c = λ bytes is held.
    let count : ℕ = c.args.count in
    let level : List ℕ = first_hashes 0 bytes count in
    let last = c.close-hash.ensures level (length-first_hashes 0 bytes count) (omega arith) (omega arith) held.hashes in
    let grown = c.add.ensures.grown (first_hashes 1 level (count / 256)) (length-first_hashes 1 level (count / 256)) held.above in
    rw (hashes-open bytes count is (omega arith), ← last) grown
