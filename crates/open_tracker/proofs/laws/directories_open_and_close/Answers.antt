use Rattle.open_tracker.proofs.Looks.{opened, alone, opened_rest, closed, closed_numbers, closed_lanes}
use Rattle.open_tracker.proofs.laws.directories_open_and_close.Goals as goal

pub returns-clause-opened : goal.returns-clause-opened
returns-clause-opened c = opened

pub returns-clause-alone : goal.returns-clause-alone
returns-clause-alone c = alone

pub returns-clause-opened_rest : goal.returns-clause-opened_rest
returns-clause-opened_rest c = opened_rest

pub returns-clause-closed : goal.returns-clause-closed
returns-clause-closed c = closed

pub returns-clause-closed_numbers : goal.returns-clause-closed_numbers
returns-clause-closed_numbers c = closed_numbers

pub returns-clause-closed_lanes : goal.returns-clause-closed_lanes
returns-clause-closed_lanes c = closed_lanes
