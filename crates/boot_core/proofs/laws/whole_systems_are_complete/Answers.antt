use Rattle.boot_core.proofs.Complete.{whole_complete, complete_whole}
use Rattle.boot_core.proofs.laws.whole_systems_are_complete.Goals as goal

pub returns : goal.returns
returns c = λ all system base cached. (whole_complete all system base cached, complete_whole all system base cached)
