use Rattle.std.proofs.Common.{◌-◌, ◌≤◌, length}
use Rattle.page_pool.specs.Words.{AreTaken}
use Rattle.page_pool.proofs.words.past_taken.Given as goal

abbrev pub invariant-loop-at : goal.invariant-loop-at
invariant-loop-at l = record {
  behind : l.from ≤ l.at;
  inside : l.at ≤ length l.words;
  taken : AreTaken l.words l.from l.at;
}

abbrev pub decreases-loop-at : goal.decreases-loop-at
decreases-loop-at l = length l.words - l.at
