use Rattle.store_model.proofs.LanesOnce.{granted_once, made_then, once_after, stand_once, stored_once}
use Rattle.store_model.proofs.LanesEnds.{stays_until, ended_then}
use Rattle.store_model.proofs.lane_laws.claims_are_granted_once.Goals as goal

pub returns-clause-granted : goal.returns-clause-granted
returns-clause-granted c = granted_once

pub returns-clause-made : goal.returns-clause-made
returns-clause-made c = made_then

pub returns-clause-event : goal.returns-clause-event
returns-clause-event c = once_after

pub returns-clause-history : goal.returns-clause-history
returns-clause-history c = stand_once

pub returns-clause-stored : goal.returns-clause-stored
returns-clause-stored c = stored_once

pub returns-clause-stays : goal.returns-clause-stays
returns-clause-stays c = stays_until

pub returns-clause-ends : goal.returns-clause-ends
returns-clause-ends c = ended_then
