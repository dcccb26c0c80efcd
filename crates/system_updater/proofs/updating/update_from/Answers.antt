use Rattle.system_updater.specs.Viewing.{told}
use Rattle.system_updater.proofs.Goes.{goes_then}
use Rattle.system_updater.proofs.Wholes.{holds_then}
use Rattle.system_updater.proofs.Grown.{grew_none, grew_goes, did_wider, tells_wider, filled_by, filled_early}
use Rattle.system_updater.proofs.updating.update_from.Goals as goal

pub take_slot-requires : goal.take_slot-requires
take_slot-requires g c =
    let repo = told (g.R.Repo.listing c.args.repo.now) (g.R.Repo.files c.args.repo.now) (g.R.Repo.faults c.args.repo.now) (g.R.Repo.fetches c.args.repo.now) in
    record { few = c.in-Ok.ensures.few; at = (c.args.dir, holds_then _ _ _ _ _ _ _ _ (c.in-Ok.ensures.goes repo) c.requires) }

pub returns-in-Ok-clause-goes : goal.returns-in-Ok-clause-goes
returns-in-Ok-clause-goes g c =
    let repo = told (g.R.Repo.listing c.args.repo.now) (g.R.Repo.files c.args.repo.now) (g.R.Repo.faults c.args.repo.now) (g.R.Repo.fetches c.args.repo.now) in
    goes_then _ _ _ _ _ _ _ _ _ _ _ _ (c.in-Ok.ensures.goes repo) (c.take_slot.ensures.goes c.args.dir (holds_then _ _ _ _ _ _ _ _ (c.in-Ok.ensures.goes repo) c.requires))

pub returns-in-Err-clause-goes : goal.returns-in-Err-clause-goes
returns-in-Err-clause-goes g c = c.in-Err.ensures.goes _

pub returns-in-Ok-clause-images : goal.returns-in-Ok-clause-images
returns-in-Ok-clause-images g c =
    let repo = told (g.R.Repo.listing c.args.repo.now) (g.R.Repo.files c.args.repo.now) (g.R.Repo.faults c.args.repo.now) (g.R.Repo.fetches c.args.repo.now) in
    let v = g.K.Desk.view c.args.desk.now in
    let w = g.K.Desk.view c.read_plan.new.desk in
    let z = g.K.Desk.view c.take_slot.new.desk in
    let read = c.in-Ok.ensures.goes repo in
    let there = holds_then _ _ _ _ _ _ _ _ read c.requires in
    filled_by _ v z c.in-Ok.plan.images c.take_slot.result (did_wider v v w z _ (grew_none v) (grew_goes _ _ w z _ _ _ _ (c.take_slot.ensures.goes c.args.dir there)) c.in-Ok.ensures.images)
    (tells_wider v w z z _ _ c.in-Ok.plan.images c.take_slot.result (grew_goes _ _ v w _ _ _ _ read) (grew_none z) read.does.firm.0 (c.take_slot.ensures.images c.args.dir there))

pub returns-in-Err-clause-images : goal.returns-in-Err-clause-images
returns-in-Err-clause-images g c = filled_early _ _ _ c.in-Err.reply c.in-Err.ensures.images
