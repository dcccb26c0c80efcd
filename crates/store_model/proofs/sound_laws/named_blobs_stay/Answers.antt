use Rattle.store_model.proofs.SoundFiles.{named_stays}
use Rattle.store_model.proofs.sound_laws.named_blobs_stay.Goals as goal

pub returns : goal.returns
returns c = named_stays
