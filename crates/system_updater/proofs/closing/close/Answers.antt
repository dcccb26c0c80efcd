use Rattle.system_updater.proofs.Desks.{close_goes}
use Rattle.store_model.specs.Desk.Keeping.{Image}
use Rattle.system_updater.proofs.closing.close.Goals as goal

pub returns-clause-goes : goal.returns-clause-goes
returns-clause-goes g c = λ next repo at.
    close_goes c.args.dir next (g.K.Desk.view c.args.desk.now) (g.K.Desk.view c.close.new.self) repo (g.K.Desk.firm c.args.desk.now) (g.K.Desk.firm c.close.new.self) c.close.result c.close.ensures.event c.close.ensures.firm at

pub returns-clause-images : goal.returns-clause-images
returns-clause-images g c = λ image bytes there. c.close.ensures.kept (Image image) bytes there
