use Rattle.system_updater.proofs.Named.{tasks_named}
use Rattle.system_updater.proofs.Causes.{has_cause}
use Rattle.system_updater.proofs.laws.replies_have_causes.Goals as goal

pub returns : goal.returns
returns c = has_cause (λ bytes images is. tasks_named images (c.images_name_files.ensures bytes images is))
