use Rattle.store_model.proofs.Sound.{sound_after}
use Rattle.store_model.proofs.sound_laws.histories_are_sound.Goals as goal

pub returns : goal.returns
returns c = sound_after
