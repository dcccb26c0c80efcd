use Rattle.plain_desk.proofs.lane.LaneDesk.miss.Goals as goal

pub returns-clause-event : goal.returns-clause-event
returns-clause-event c = c.miss.ensures.event _
