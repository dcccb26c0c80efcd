use Rattle.store_model.proofs.Holding.{holds_as_state}
use Rattle.store_model.proofs.HoldingThere.{handles_there}
use Rattle.store_model.proofs.holding_laws.lanes_hold_what_the_state_has.Goals as goal

pub returns-clause-held : goal.returns-clause-held
returns-clause-held c = holds_as_state

pub returns-clause-there : goal.returns-clause-there
returns-clause-there c = handles_there
