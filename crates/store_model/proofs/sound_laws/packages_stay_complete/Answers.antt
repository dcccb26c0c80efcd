use Rattle.store_model.proofs.Sound.{complete_after}
use Rattle.store_model.proofs.sound_laws.packages_stay_complete.Goals as goal

pub returns : goal.returns
returns c = complete_after
