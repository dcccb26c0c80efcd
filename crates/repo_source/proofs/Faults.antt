-- Counts of faults over calls that follow one another.
use Rattle.std.proofs.Common.{ℕ, ◌+◌, ◌≤◌, arith}
use Rattle.pkg_names.specs.Streams.{RoseBy}
use Rattle.repo_source.specs.Repo.{FailedBy}

pub rose_then : (m n x y z : ℕ) → RoseBy m x y → RoseBy n y z → RoseBy (m + n) x z
rose_then m n x y z h k = omega arith

pub rose_same : (x : ℕ) → RoseBy 0 x x
rose_same x = omega arith

pub failed_then : (m n x y z : ℕ) → FailedBy m x y → FailedBy n y z → FailedBy (m + n) x z
failed_then m n x y z h k = (rose_then m n x y z h.0 k.0, sum h.1 k.1) where
  sum : y ≤ x + m → z ≤ y + n → z ≤ x + (m + n)
  sum a b = omega arith

pub failed_same : (x : ℕ) → FailedBy 0 x x
failed_same x = (rose_same x, omega arith)
