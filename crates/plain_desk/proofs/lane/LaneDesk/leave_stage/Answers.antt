use Rattle.store_model.specs.Desk.Keeping.{Blob}
use Rattle.plain_desk.proofs.lane.LaneDesk.leave_stage.Goals as goal

pub returns-clause-event : goal.returns-clause-event
returns-clause-event c = c.leave_stage.ensures.event _

pub returns-clause-kept : goal.returns-clause-kept
returns-clause-kept c = c.leave_stage.ensures.kept Blob
