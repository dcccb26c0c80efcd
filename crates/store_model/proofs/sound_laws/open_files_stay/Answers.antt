use Rattle.store_model.proofs.Sound.{files_there, files_stay}
use Rattle.store_model.proofs.sound_laws.open_files_stay.Goals as goal

pub returns-clause-there : goal.returns-clause-there
returns-clause-there c = files_there

pub returns-clause-same : goal.returns-clause-same
returns-clause-same c = files_stay
