use Rattle.lane_steps.proofs.Asked.{granted_wanted, free_failed, free_opened}
use Rattle.lane_steps.proofs.Kept.{fits_in}
use Rattle.lane_steps.specs.declared.hand.Hand.TheVariants as hands
use Rattle.lane_steps.proofs.packages.want.Goals as goal

pub returns-in-Fetch-clause-hand : goal.returns-in-Fetch-clause-hand
returns-in-Fetch-clause-hand g c =
    granted_wanted c.in-Asking.ticket c.in-Fetch.ticket c.in-Fetch.claim (g.K.Desk.view c.args.desk.now) (g.K.Desk.view c.want.new.self) c.in-Fetch.ensures.event
    (fits_in c.args.hand (hands.Asking c.in-Asking.ticket) (g.K.Desk.view c.args.desk.now) c.in-Asking.is c.requires)

pub returns-in-Failed-clause-hand : goal.returns-in-Failed-clause-hand
returns-in-Failed-clause-hand g c =
    free_failed c.in-Failed.field-0 c.in-Asking.ticket (g.K.Desk.view c.args.desk.now) (g.K.Desk.view c.want.new.self) c.in-Failed.ensures.event
    (fits_in c.args.hand (hands.Asking c.in-Asking.ticket) (g.K.Desk.view c.args.desk.now) c.in-Asking.is c.requires)

pub returns-in-Opened-clause-hand : goal.returns-in-Opened-clause-hand
returns-in-Opened-clause-hand g c =
    free_opened c.in-Opened.field-0 c.in-Asking.ticket (g.K.Desk.view c.args.desk.now) (g.K.Desk.view c.want.new.self) c.in-Opened.ensures.event
    (fits_in c.args.hand (hands.Asking c.in-Asking.ticket) (g.K.Desk.view c.args.desk.now) c.in-Asking.is c.requires)
