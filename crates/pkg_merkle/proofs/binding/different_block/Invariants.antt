use Rattle.std.proofs.Common.{◌≡◌, ℕ, ◌<◌}
use Rattle.pkg_merkle.specs.Merkle.{block}
use Rattle.pkg_merkle.proofs.binding.different_block.Given as goal

abbrev pub invariant-loop-i : goal.invariant-loop-i
invariant-loop-i l = (j : ℕ) → j < l.i → block l.a j ≡ block l.b j
