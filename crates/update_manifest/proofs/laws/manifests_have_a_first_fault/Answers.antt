use Rattle.update_manifest.proofs.Bringing.{first_fault}
use Rattle.update_manifest.proofs.laws.manifests_have_a_first_fault.Goals as goal

pub returns : goal.returns
returns c = first_fault
