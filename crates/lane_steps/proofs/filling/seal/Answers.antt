use Rattle.lane_steps.proofs.Staged.{sealed_filled, filling_differs}
use Rattle.lane_steps.proofs.Kept.{fits_in}
use Rattle.lane_steps.specs.declared.hand.Hand.TheVariants as hands
use Rattle.lane_steps.proofs.filling.seal.Goals as goal

pub returns-in-Sealed-clause-hand : goal.returns-in-Sealed-clause-hand
returns-in-Sealed-clause-hand g c =
    sealed_filled c.args.sys.now (g.K.Desk.view c.args.desk.now) (g.K.Desk.view c.seal.new.self) c.in-Sealed.ensures.event
    (fits_in c.args.hand hands.Filling (g.K.Desk.view c.args.desk.now) c.in-Filling.is c.requires)

pub returns-in-Differs-clause-hand : goal.returns-in-Differs-clause-hand
returns-in-Differs-clause-hand g c =
    filling_differs c.args.sys.now c.in-Differs.image c.in-Differs.got (g.K.Desk.view c.args.desk.now) (g.K.Desk.view c.seal.new.self) c.in-Differs.ensures.event
    (fits_in c.args.hand hands.Filling (g.K.Desk.view c.args.desk.now) c.in-Filling.is c.requires)
