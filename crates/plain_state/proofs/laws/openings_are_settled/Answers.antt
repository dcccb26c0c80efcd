use Rattle.plain_state.proofs.SettledActs.{opens}
use Rattle.plain_state.proofs.laws.openings_are_settled.Goals as goal

pub returns : goal.returns
returns c = opens
