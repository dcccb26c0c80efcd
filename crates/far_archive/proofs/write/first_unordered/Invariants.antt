use Rattle.std.proofs.Common.{◌≡◌, ◌<◌, ◌+◌, ℕ, [], get_or}
use Rattle.std.specs.Ordering.{nat_cmp}
use Rattle.std.specs.Cmp.Lexicographic.{slice_cmp}
use Rattle.std.specs.declared.cmp.Ordering.TheVariants.{Less}
use Rattle.far_archive.specs.Written.{listed}
use Rattle.far_archive.proofs.write.first_unordered.Given as goal

abbrev pub invariant-loop-k : goal.invariant-loop-k
invariant-loop-k l = (j : ℕ) → j + 1 < l.k → slice_cmp nat_cmp (get_or (listed l.entries) j ([], [])).0 (get_or (listed l.entries) (j + 1) ([], [])).0 ≡ Less
