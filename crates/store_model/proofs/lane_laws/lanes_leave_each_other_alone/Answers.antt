use Rattle.store_model.proofs.LanesApart.{left_alone, left_alone_after}
use Rattle.store_model.proofs.LanesKept.{claim_stays, ticket_stays, dir_stays}
use Rattle.store_model.proofs.lane_laws.lanes_leave_each_other_alone.Goals as goal

pub returns-clause-event : goal.returns-clause-event
returns-clause-event c = left_alone

pub returns-clause-history : goal.returns-clause-history
returns-clause-history c = left_alone_after

pub returns-clause-claim : goal.returns-clause-claim
returns-clause-claim c = claim_stays

pub returns-clause-ticket : goal.returns-clause-ticket
returns-clause-ticket c = ticket_stays

pub returns-clause-dir : goal.returns-clause-dir
returns-clause-dir c = dir_stays
