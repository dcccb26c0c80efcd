use Rattle.plain_state.proofs.Ready.{ready_after}
use Rattle.plain_state.proofs.laws.stores_are_ready.Goals as goal

pub returns : goal.returns
returns c = ready_after
