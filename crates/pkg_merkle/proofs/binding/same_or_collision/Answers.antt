use Rattle.std.proofs.Common.{ap}
use Rattle.pkg_names.specs.declared.root.Root.{Root}
use Rattle.pkg_merkle.specs.Merkle.{merkle_root, inputs}
use Rattle.pkg_merkle.proofs.binding.same_or_collision.Goals as goal

pub compared-requires-clause-root : goal.compared-requires-clause-root
unfolding merkle_root
compared-requires-clause-root c = ap (λ (r : Root). r.0) c.requires.root

pub returns-clause-found : goal.returns-clause-found
unfolding inputs
returns-clause-found c = c.compared.ensures.found
