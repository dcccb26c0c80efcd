use Rattle.lane_steps.proofs.Asked.{asking_missed}
use Rattle.lane_steps.proofs.Kept.{fits_in}
use Rattle.lane_steps.specs.declared.hand.Hand.TheVariants as hands
use Rattle.lane_steps.proofs.packages.miss.Goals as goal

pub returns-clause-hand : goal.returns-clause-hand
returns-clause-hand g c =
    asking_missed c.args.why c.in-Granted.ticket c.in-Granted.claim (g.K.Desk.view c.args.desk.now) (g.K.Desk.view c.miss.new.self) c.miss.ensures.event
    (fits_in c.args.hand (hands.Granted c.in-Granted.ticket c.in-Granted.claim) (g.K.Desk.view c.args.desk.now) c.in-Granted.is c.requires)
