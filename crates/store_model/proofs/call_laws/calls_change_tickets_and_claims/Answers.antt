use Rattle.store_model.proofs.CallsHeld.{begun, wanted, roomed, piece_put, landed_by_event, missed, given_up}
use Rattle.store_model.proofs.call_laws.calls_change_tickets_and_claims.Goals as goal

pub returns-clause-begin : goal.returns-clause-begin
returns-clause-begin c = begun

pub returns-clause-want : goal.returns-clause-want
returns-clause-want c = wanted

pub returns-clause-room : goal.returns-clause-room
returns-clause-room c = roomed

pub returns-clause-put : goal.returns-clause-put
returns-clause-put c = piece_put

pub returns-clause-land : goal.returns-clause-land
returns-clause-land c = landed_by_event

pub returns-clause-miss : goal.returns-clause-miss
returns-clause-miss c = missed

pub returns-clause-give_up : goal.returns-clause-give_up
returns-clause-give_up c = given_up
