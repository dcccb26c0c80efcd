use Rattle.update_manifest.proofs.Bringing.{brings}
use Rattle.update_manifest.proofs.laws.texts_bring_what_is_read.Goals as goal

pub returns : goal.returns
returns c = brings
