use Rattle.plain_desk.proofs.lane.LaneDesk.give_up.Goals as goal

pub returns-clause-event : goal.returns-clause-event
returns-clause-event c = c.give_up.ensures.event _
