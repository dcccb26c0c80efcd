use Rattle.lane_steps.proofs.Asked.{roomy_made, asking_no_room}
use Rattle.lane_steps.proofs.Kept.{fits_in}
use Rattle.lane_steps.specs.declared.hand.Hand.TheVariants as hands
use Rattle.lane_steps.proofs.packages.room.Goals as goal

pub returns-in-Made-clause-hand : goal.returns-in-Made-clause-hand
returns-in-Made-clause-hand g c =
    roomy_made c.args.len c.in-Granted.ticket c.in-Granted.claim c.in-Made.claim (g.K.Desk.view c.args.desk.now) (g.K.Desk.view c.room.new.self) c.in-Made.ensures.event
    (fits_in c.args.hand (hands.Granted c.in-Granted.ticket c.in-Granted.claim) (g.K.Desk.view c.args.desk.now) c.in-Granted.is c.requires)

pub returns-in-Ended-clause-hand : goal.returns-in-Ended-clause-hand
returns-in-Ended-clause-hand g c =
    asking_no_room c.args.len c.in-Ended.field-0 c.in-Granted.ticket c.in-Granted.claim (g.K.Desk.view c.args.desk.now) (g.K.Desk.view c.room.new.self) c.in-Ended.ensures.event
    (fits_in c.args.hand (hands.Granted c.in-Granted.ticket c.in-Granted.claim) (g.K.Desk.view c.args.desk.now) c.in-Granted.is c.requires)
