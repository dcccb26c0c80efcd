use Rattle.disk_model.proofs.PageStates.{possible-wrote, possible-failed, possible-synced}
use Rattle.disk_model.proofs.laws.possible_after_act.Goals as goal

pub returns-clause-wrote : goal.returns-clause-wrote
returns-clause-wrote c = possible-wrote

pub returns-clause-failed : goal.returns-clause-failed
returns-clause-failed c = possible-failed

pub returns-clause-synced : goal.returns-clause-synced
returns-clause-synced c = possible-synced
