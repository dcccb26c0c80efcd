use Rattle.store_model.proofs.LanesMarks.{each, first_stays, comes_from_end, comes_unmarked}
use Rattle.store_model.proofs.lane_laws.marks_come_from_ends.Goals as goal

pub returns-clause-each : goal.returns-clause-each
returns-clause-each c = each

pub returns-clause-first : goal.returns-clause-first
returns-clause-first c = first_stays

pub returns-clause-new : goal.returns-clause-new
returns-clause-new c = comes_from_end

pub returns-clause-unmarked : goal.returns-clause-unmarked
returns-clause-unmarked c = comes_unmarked
