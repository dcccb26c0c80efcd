use Rattle.std.proofs.Common.{length}
use Rattle.pkg_merkle.proofs.binding.+top_input.Given as goal

abbrev pub decreases-top_input : goal.decreases-top_input
decreases-top_input l = length l.bytes.now
