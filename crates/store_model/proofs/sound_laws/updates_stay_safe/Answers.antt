use Rattle.store_model.proofs.Sound.{stage_after, staged_after}
use Rattle.store_model.proofs.sound_laws.updates_stay_safe.Goals as goal

pub returns-clause-stage : goal.returns-clause-stage
returns-clause-stage c = stage_after

pub returns-clause-staged : goal.returns-clause-staged
returns-clause-staged c = staged_after
