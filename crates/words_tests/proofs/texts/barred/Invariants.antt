use Rattle.std.proofs.Common.{length}
use Rattle.words_tests.proofs.texts.barred.Given as goal

abbrev pub decreases-loop-rest : goal.decreases-loop-rest
decreases-loop-rest l = length l.rest
