use Rattle.lane_steps.proofs.Asked.{asking_put}
use Rattle.lane_steps.proofs.Kept.{fits_in}
use Rattle.lane_steps.specs.declared.hand.Hand.TheVariants as hands
use Rattle.lane_steps.proofs.packages.put.Goals as goal

pub returns-in-Ended-clause-hand : goal.returns-in-Ended-clause-hand
returns-in-Ended-clause-hand g c =
    asking_put c.in-Ended.field-0 c.in-Roomy.ticket c.in-Roomy.claim (g.K.Desk.view c.args.desk.now) (g.K.Desk.view c.put.new.self) c.in-Ended.ensures.event
    (fits_in c.args.hand (hands.Roomy c.in-Roomy.ticket c.in-Roomy.claim) (g.K.Desk.view c.args.desk.now) c.in-Roomy.is c.requires)
