use Rattle.std.proofs.Common.{◌≢◌, ℕ, ◌*◌, ◌<◌, take, drop}
use Rattle.pkg_merkle.specs.Binding.{zero_digest}
use Rattle.pkg_merkle.proofs.binding.zero_hash.Given as goal

abbrev pub invariant-loop-i : goal.invariant-loop-i
invariant-loop-i l = (j : ℕ) → j < l.i → take 32 (drop (32 * j) l.hashes) ≢ zero_digest
