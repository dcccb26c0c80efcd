use Rattle.plain_desk.proofs.lane.LaneDesk.pause.Goals as goal

pub returns-clause-none : goal.returns-clause-none
returns-clause-none c = c.pause.ensures _
