use Rattle.resolver.proofs.Leaving.{same_in_state}
use Rattle.system_updater.proofs.laws.updates_leave_nothing.Goals as goal

pub returns : goal.returns
returns c = λ path pin reply old new repo repo_now updates agrees. same_in_state old new updates.stays agrees (updates.agrees agrees) updates.held
