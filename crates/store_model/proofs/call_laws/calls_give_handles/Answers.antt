use Rattle.store_model.proofs.CallsHandles.{ticket_made, dir_of_ticket, dir_of_path}
use Rattle.store_model.proofs.call_laws.calls_give_handles.Goals as goal

pub returns-clause-ticket : goal.returns-clause-ticket
returns-clause-ticket c = ticket_made

pub returns-clause-dir : goal.returns-clause-dir
returns-clause-dir c = dir_of_ticket

pub returns-clause-path : goal.returns-clause-path
returns-clause-path c = dir_of_path
