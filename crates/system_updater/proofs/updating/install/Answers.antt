use Rattle.system_updater.specs.Plan.{sys_of}
use Rattle.system_updater.specs.Viewing.{told}
use Rattle.system_updater.proofs.Goes.{goes_then}
use Rattle.system_updater.proofs.Wholes.{sealed_stage, holds_then}
use Rattle.system_updater.proofs.Grown.{grew_goes, tells_judged}
use Rattle.system_updater.proofs.updating.install.Goals as goal

pub activate-requires : goal.activate-requires
activate-requires g c =
    sealed_stage c.requires.at.0 (sys_of c.args.plan) _ (holds_then _ _ _ _ _ _ _ _ (c.in-Ok.ensures.goes c.requires.at.0 c.requires.at.1) c.requires.at.1)

pub returns-in-Ok-clause-goes : goal.returns-in-Ok-clause-goes
returns-in-Ok-clause-goes g c = λ dir at. goes_then _ _ _ _ _ _ _ _ _ _ _ _ (c.in-Ok.ensures.goes dir at) (c.activate.ensures.goes dir (sys_of c.args.plan) _)

pub returns-in-Ok-clause-images : goal.returns-in-Ok-clause-images
returns-in-Ok-clause-images g c = λ dir at zbi vbmeta.
    let repo = told (g.R.Repo.listing c.args.repo.now) (g.R.Repo.files c.args.repo.now) (g.R.Repo.faults c.args.repo.now) (g.R.Repo.fetches c.args.repo.now) in
    tells_judged _ (g.K.Desk.view c.args.desk.now) (g.K.Desk.view c.fill_slot.new.desk) (g.K.Desk.view c.activate.new.desk) c.args.plan.images c.activate.result c.activate.ensures.images
    (grew_goes _ _ _ _ _ _ _ _ (c.activate.ensures.goes dir (sys_of c.args.plan) repo)) (c.in-Ok.ensures.images dir at zbi vbmeta)

pub returns-in-Err-clause-images : goal.returns-in-Err-clause-images
returns-in-Err-clause-images g c = c.in-Err.ensures.images
