use Rattle.std.proofs.Common.{length}
use Rattle.pkg_merkle.proofs.binding.+compared.Given as goal

abbrev pub decreases-compared : goal.decreases-compared
decreases-compared l = length l.a.now
