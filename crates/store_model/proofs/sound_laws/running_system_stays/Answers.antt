use Rattle.store_model.proofs.Sound.{runs_on, runs_its_system}
use Rattle.store_model.proofs.sound_laws.running_system_stays.Goals as goal

pub returns-clause-slot : goal.returns-clause-slot
returns-clause-slot c = runs_on

pub returns-clause-base : goal.returns-clause-base
returns-clause-base c = runs_its_system
