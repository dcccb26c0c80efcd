use Rattle.store_model.specs.Desk.Keeping.{Blob}
use Rattle.plain_desk.proofs.lane.LaneDesk.activate.Goals as goal

pub returns-clause-kept : goal.returns-clause-kept
returns-clause-kept c = c.activate.ensures.kept Blob
