use Rattle.plain_state.proofs.SettledStill.{stays, grants, makes_room, unclaims, ends, opens_path, stages, seals, leaves_stage, commits}
use Rattle.plain_state.proofs.laws.still_acts_are_settled.Goals as goal

pub returns-clause-nothing : goal.returns-clause-nothing
returns-clause-nothing c = stays

pub returns-clause-granted : goal.returns-clause-granted
returns-clause-granted c = grants

pub returns-clause-room : goal.returns-clause-room
returns-clause-room c = makes_room

pub returns-clause-unclaimed : goal.returns-clause-unclaimed
returns-clause-unclaimed c = unclaims

pub returns-clause-ended : goal.returns-clause-ended
returns-clause-ended c = ends

pub returns-clause-opened : goal.returns-clause-opened
returns-clause-opened c = opens_path

pub returns-clause-staged : goal.returns-clause-staged
returns-clause-staged c = stages

pub returns-clause-sealed : goal.returns-clause-sealed
returns-clause-sealed c = seals

pub returns-clause-left : goal.returns-clause-left
returns-clause-left c = leaves_stage

pub returns-clause-committed : goal.returns-clause-committed
returns-clause-committed c = commits
