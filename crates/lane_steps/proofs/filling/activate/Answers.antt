use Rattle.lane_steps.proofs.Staged.{done_active, sealed_missing, sealed_no_system}
use Rattle.lane_steps.proofs.Kept.{fits_in}
use Rattle.lane_steps.specs.declared.hand.Hand.TheVariants as hands
use Rattle.lane_steps.proofs.filling.activate.Goals as goal

pub returns-in-Active-clause-hand : goal.returns-in-Active-clause-hand
returns-in-Active-clause-hand g c =
    done_active c.in-Active.slot (g.K.Desk.view c.args.desk.now) (g.K.Desk.view c.activate.new.self) c.in-Active.ensures.event
    (fits_in c.args.hand hands.Sealed (g.K.Desk.view c.args.desk.now) c.in-Sealed.is c.requires)

pub returns-in-BaseMissing-clause-hand : goal.returns-in-BaseMissing-clause-hand
returns-in-BaseMissing-clause-hand g c =
    sealed_missing c.in-BaseMissing.root (g.K.Desk.view c.args.desk.now) (g.K.Desk.view c.activate.new.self) c.in-BaseMissing.ensures.event
    (fits_in c.args.hand hands.Sealed (g.K.Desk.view c.args.desk.now) c.in-Sealed.is c.requires)

pub returns-in-NotASystem-clause-hand : goal.returns-in-NotASystem-clause-hand
returns-in-NotASystem-clause-hand g c =
    sealed_no_system c.in-NotASystem.why (g.K.Desk.view c.args.desk.now) (g.K.Desk.view c.activate.new.self) c.in-NotASystem.ensures.event
    (fits_in c.args.hand hands.Sealed (g.K.Desk.view c.args.desk.now) c.in-Sealed.is c.requires)
