use Rattle.std.proofs.Common.{◌≡◌, ◌+◌, ◌*◌, ℕ, List, drop}
use Rattle.pkg_merkle.specs.Hasher.{TreeHolds}
use Rattle.pkg_merkle.proofs.tree.Tree.add_blocks.Given as goal

abbrev pub invariant-loop-i : goal.invariant-loop-i
invariant-loop-i l = (bytes : List ℕ) → drop (8192 * l.index) bytes ≡ l.blocks → TreeHolds l.initial.self bytes l.index → TreeHolds l.self bytes (l.index + l.i)
