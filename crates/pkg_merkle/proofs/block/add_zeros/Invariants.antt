use Rattle.std.proofs.Common.{ℕ, List, ◌++◌, ◌≤◌, ◌-◌, replicate}
use Rattle.sha2.specs.Hashers.{Holds256}
use Rattle.pkg_merkle.proofs.block.add_zeros.Given as goal

abbrev pub invariant-loop-left : goal.invariant-loop-left
invariant-loop-left l = record {
  within : l.left ≤ l.fn.count;
  added : (m : List ℕ) → Holds256 l.initial.hasher m → Holds256 l.hasher (m ++ replicate (l.fn.count - l.left) 0);
}

abbrev pub decreases-loop-left : goal.decreases-loop-left
decreases-loop-left l = l.left
