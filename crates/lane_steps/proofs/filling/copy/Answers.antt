use Rattle.store_model.proofs.CallsRest.{held_after_copy}
use Rattle.lane_steps.proofs.Grown.{grows_copied}
use Rattle.lane_steps.proofs.Kept.{fits_in, fits_same}
use Rattle.lane_steps.specs.declared.hand.Hand.TheVariants as hands
use Rattle.lane_steps.proofs.filling.copy.Goals as goal

pub returns-clause-hand : goal.returns-clause-hand
returns-clause-hand g c =
    fits_same hands.Filling (g.K.Desk.view c.args.desk.now) (g.K.Desk.view c.copy_part-reply.new.self) (held_after_copy c.args.image c.args.dir c.in_ok-file.file c.copy_part-reply.result (g.K.Desk.view c.args.desk.now) (g.K.Desk.view c.copy_part-reply.new.self) c.copy_part-reply.ensures.event)
    (fits_in c.args.hand hands.Filling (g.K.Desk.view c.args.desk.now) c.in-Filling.is c.requires)

pub returns-clause-grows : goal.returns-clause-grows
returns-clause-grows g c =
    grows_copied c.args.image c.args.dir c.in_ok-file.file c.copy_part-reply.result (g.K.Desk.view c.args.desk.now) (g.K.Desk.view c.copy_part-reply.new.self) c.copy_part-reply.ensures.event

pub returns-then-ne-clause-grows : goal.returns-then-ne-clause-grows
returns-then-ne-clause-grows g c =
    grows_copied c.args.image c.args.dir c.in_ok-file.file c.copy_part-reply.result (g.K.Desk.view c.args.desk.now) (g.K.Desk.view c.copy_part-reply.new.self) c.copy_part-reply.ensures.event
