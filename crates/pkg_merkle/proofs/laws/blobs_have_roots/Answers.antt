use Rattle.pkg_merkle.proofs.RootLemmas.{IsRoot-merkle_root, HashesLast-merkle_root}
use Rattle.pkg_merkle.proofs.laws.blobs_have_roots.Goals as goal

pub returns : goal.returns
returns c = record { root = IsRoot-merkle_root; inputs = HashesLast-merkle_root }
