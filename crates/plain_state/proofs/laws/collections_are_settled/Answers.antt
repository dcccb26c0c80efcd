use Rattle.plain_state.proofs.SettledStill.{collects}
use Rattle.plain_state.proofs.laws.collections_are_settled.Goals as goal

pub returns : goal.returns
returns c = collects
