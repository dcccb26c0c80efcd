use Rattle.lane_steps.proofs.Asked.{asking_begun, free_begun}
use Rattle.lane_steps.proofs.Grown.{grows_begun}
use Rattle.lane_steps.proofs.Kept.{fits_in}
use Rattle.lane_steps.specs.declared.hand.Hand.TheVariants as hands
use Rattle.lane_steps.proofs.packages.begin.Goals as goal

pub returns-in-Made-clause-hand : goal.returns-in-Made-clause-hand
returns-in-Made-clause-hand g c =
    asking_begun c.in_ok-path.path c.args.choice c.in-Made.ticket (g.K.Desk.view c.args.desk.now) (g.K.Desk.view c.begin.new.self) c.in-Made.ensures.event
    (fits_in c.args.hand hands.Free (g.K.Desk.view c.args.desk.now) c.in-Free.is c.requires)

pub returns : goal.returns
returns g c =
    record {
      hand = free_begun c.in_ok-path.path c.args.choice c.begin.result (g.K.Desk.view c.args.desk.now) (g.K.Desk.view c.begin.new.self) c.begin.ensures.event
          (fits_in c.args.hand hands.Free (g.K.Desk.view c.args.desk.now) c.in-Free.is c.requires);
      grows = grows_begun c.in_ok-path.path c.args.choice c.begin.result (g.K.Desk.view c.args.desk.now) (g.K.Desk.view c.begin.new.self) c.begin.ensures.event;
    }
