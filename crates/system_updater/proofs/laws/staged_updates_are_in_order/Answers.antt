use Rattle.system_updater.proofs.Staged.{in_order}
use Rattle.system_updater.proofs.laws.staged_updates_are_in_order.Goals as goal

pub returns : goal.returns
returns c = λ path pin run slot serves. in_order slot path pin run serves
