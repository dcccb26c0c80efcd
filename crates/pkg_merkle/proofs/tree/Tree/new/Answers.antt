use Rattle.pkg_merkle.specs.Merkle.{first_inputs}
use Rattle.pkg_merkle.proofs.tree.Tree.new.Goals as goal

pub returns : goal.returns
unfolding first_inputs
returns c = record { hashes = c.new.ensures; above = c.new-2.ensures }
