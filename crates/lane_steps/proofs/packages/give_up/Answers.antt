use Rattle.lane_steps.proofs.Asked.{free_given_up}
use Rattle.lane_steps.proofs.Kept.{fits_in}
use Rattle.lane_steps.specs.declared.hand.Hand.TheVariants as hands
use Rattle.lane_steps.proofs.packages.give_up.Goals as goal

pub returns-clause-hand : goal.returns-clause-hand
returns-clause-hand g c =
    free_given_up c.in-Asking.ticket (g.K.Desk.view c.args.desk.now) (g.K.Desk.view c.give_up.new.self) c.give_up.ensures.event
    (fits_in c.args.hand (hands.Asking c.in-Asking.ticket) (g.K.Desk.view c.args.desk.now) c.in-Asking.is c.requires)
