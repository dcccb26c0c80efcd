use Rattle.std.proofs.Common.{◌≡◌}
use Rattle.pkg_merkle.specs.Merkle.{first_hashes}
use Rattle.pkg_merkle.proofs.binding.hashes.Given as goal

abbrev pub invariant-loop-i : goal.invariant-loop-i
invariant-loop-i l = l.above.items ≡ first_hashes l.level l.bytes l.i
