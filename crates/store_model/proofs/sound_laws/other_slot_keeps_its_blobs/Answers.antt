use Rattle.store_model.proofs.SoundFiles.{other_pends, all_stay}
use Rattle.store_model.proofs.sound_laws.other_slot_keeps_its_blobs.Goals as goal

pub returns-clause-pending : goal.returns-clause-pending
returns-clause-pending c = other_pends

pub returns-clause-stays : goal.returns-clause-stays
returns-clause-stays c = all_stay
