use Rattle.std.proofs.Common.{ℕ, List, [], ◌/◌}
use Rattle.std.proofs.lemmas.List.{append-nil}
use Rattle.pkg_merkle.specs.Merkle.{first_hashes}
use Rattle.pkg_merkle.proofs.RootLemmas.{length-first_hashes}
use Rattle.pkg_merkle.proofs.Levels.{TreeHolds-more}
use Rattle.pkg_merkle.proofs.tree.Tree.add_hash.Goals as goal

pub returns-in-Some : goal.returns-in-Some
returns-in-Some c = λ bytes is held.
    let index : ℕ = c.args.index in
    let level : List ℕ = first_hashes 0 bytes index in
    let size = length-first_hashes 0 bytes index in
    let grown = c.add.ensures.grown level size held.hashes in
    let filled = c.in-Some.ensures.filled level size held.hashes in
    let above = c.add-in-Some.ensures.grown (first_hashes 1 level (index / 256)) (length-first_hashes 1 level (index / 256)) held.above in
    TreeHolds-more _ bytes c.args.hash.now c.in-Some.whole index is grown filled above

pub returns-in_default : goal.returns-in_default
returns-in_default c = λ bytes is held.
    let index : ℕ = c.args.index in
    let level : List ℕ = first_hashes 0 bytes index in
    let size = length-first_hashes 0 bytes index in
    let grown = c.add.ensures.grown level size held.hashes in
    let filled = c.in_default.ensures.filled level size held.hashes in
    TreeHolds-more _ bytes c.args.hash.now [] index is grown filled (rw (append-nil (first_hashes 1 level (index / 256))) held.above)
