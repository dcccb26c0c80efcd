use Rattle.pkg_merkle.proofs.BindingLaw.{merkle_root-binds}
use Rattle.pkg_merkle.proofs.laws.roots_bind_blobs.Goals as goal

pub returns : goal.returns
returns c = merkle_root-binds
