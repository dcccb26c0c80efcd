use Rattle.lane_steps.proofs.Staged.{filling_staged, free_staged}
use Rattle.lane_steps.proofs.Grown.{grows_staged}
use Rattle.lane_steps.proofs.Kept.{fits_in}
use Rattle.lane_steps.specs.declared.hand.Hand.TheVariants as hands
use Rattle.lane_steps.proofs.filling.stage.Goals as goal

pub returns-in-Turn-clause-hand : goal.returns-in-Turn-clause-hand
returns-in-Turn-clause-hand g c =
    filling_staged c.args.epoch c.in-Turn.slot (g.K.Desk.view c.args.desk.now) (g.K.Desk.view c.stage.new.self) c.in-Turn.ensures.event
    (fits_in c.args.hand hands.Free (g.K.Desk.view c.args.desk.now) c.in-Free.is c.requires)

pub returns-in_default-stage : goal.returns-in_default-stage
returns-in_default-stage g c =
    record {
      hand = free_staged c.args.epoch c.stage.result (g.K.Desk.view c.args.desk.now) (g.K.Desk.view c.stage.new.self) c.stage.ensures.event
          (fits_in c.args.hand hands.Free (g.K.Desk.view c.args.desk.now) c.in-Free.is c.requires);
      grows = grows_staged c.args.epoch c.stage.result (g.K.Desk.view c.args.desk.now) (g.K.Desk.view c.stage.new.self) c.stage.ensures.event;
    }
