use Rattle.store_model.proofs.Sound.{lasts_well, means_well, begins_as_lasted}
use Rattle.store_model.proofs.sound_laws.what_lasts_can_begin.Goals as goal

pub returns-clause-lasts : goal.returns-clause-lasts
returns-clause-lasts c = lasts_well

pub returns-clause-meant : goal.returns-clause-meant
returns-clause-meant c = means_well

pub returns-clause-begins : goal.returns-clause-begins
returns-clause-begins c = begins_as_lasted
