use Rattle.page_pool.specs.Words.{AreTaken}
use Rattle.page_pool.proofs.slow.first_free_word.Given as goal

abbrev pub invariant-loop-place : goal.invariant-loop-place
invariant-loop-place l = AreTaken l.words l.from l.place
