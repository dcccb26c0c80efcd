use Rattle.collector.proofs.Tallies.{zeros_so}
use Rattle.collector.proofs.laws.zeros_are_unprotected.Goals as goal

pub returns : goal.returns
returns c = zeros_so
