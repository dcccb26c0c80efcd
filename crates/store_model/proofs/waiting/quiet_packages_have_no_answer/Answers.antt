use Rattle.store_model.proofs.NoAnswer.{waits}
use Rattle.store_model.proofs.waiting.quiet_packages_have_no_answer.Goals as goal

pub returns : goal.returns
returns c = waits
