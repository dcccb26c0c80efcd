use Rattle.std.proofs.Common.{refl}
use Rattle.system_updater.specs.Serving.{closed}
use Rattle.system_updater.specs.Viewing.{told}
use Rattle.system_updater.proofs.Goes.{goes_then}
use Rattle.system_updater.proofs.Wholes.{leaving_stage, holds_then}
use Rattle.system_updater.proofs.Grown.{grew_goes, tells_wider, tells_early}
use Rattle.system_updater.proofs.updating.take_slot.Goals as goal

pub install-reply-requires : goal.install-reply-requires
install-reply-requires g c =
    let dir = c.requires.at.0 in
    let repo = told (g.R.Repo.listing c.args.repo.now) (g.R.Repo.files c.args.repo.now) (g.R.Repo.faults c.args.repo.now) (g.R.Repo.fetches c.args.repo.now) in
    record { few = c.requires.few; at = (dir, holds_then _ _ _ _ _ _ _ _ (c.in-Ok.ensures.goes dir c.args.plan repo refl) c.requires.at.1) }

pub leave-requires : goal.leave-requires
leave-requires g c =
    let dir = c.requires.at.0 in
    let repo = told (g.R.Repo.listing c.args.repo.now) (g.R.Repo.files c.args.repo.now) (g.R.Repo.faults c.args.repo.now) (g.R.Repo.fetches c.args.repo.now) in
    let at = holds_then _ _ _ _ _ _ _ _ (c.in-Ok.ensures.goes dir c.args.plan repo refl) c.requires.at.1 in
    leaving_stage (closed dir c.install-reply.result) _ (holds_then _ _ _ _ _ _ _ _ (c.install-reply.ensures.goes dir at) at)

pub returns-in-Ok-clause-goes : goal.returns-in-Ok-clause-goes
returns-in-Ok-clause-goes g c = λ dir at.
    let repo = told (g.R.Repo.listing c.args.repo.now) (g.R.Repo.files c.args.repo.now) (g.R.Repo.faults c.args.repo.now) (g.R.Repo.fetches c.args.repo.now) in
    let there = holds_then _ _ _ _ _ _ _ _ (c.in-Ok.ensures.goes dir c.args.plan repo refl) at in
    goes_then _ _ _ _ _ _ _ _ _ _ _ _ (goes_then _ _ _ _ _ _ _ _ _ _ _ _ (c.in-Ok.ensures.goes dir c.args.plan repo refl) (c.install-reply.ensures.goes dir there)) (c.leave.ensures (closed dir c.install-reply.result) _)

pub returns-in-Ok-clause-images : goal.returns-in-Ok-clause-images
returns-in-Ok-clause-images g c = λ dir at.
    let repo = told (g.R.Repo.listing c.args.repo.now) (g.R.Repo.files c.args.repo.now) (g.R.Repo.faults c.args.repo.now) (g.R.Repo.fetches c.args.repo.now) in
    let taken = c.in-Ok.ensures.goes dir c.args.plan repo refl in
    let there = holds_then _ _ _ _ _ _ _ _ taken at in
    tells_wider (g.K.Desk.view c.args.desk.now) (g.K.Desk.view c.stage.new.desk) (g.K.Desk.view c.install-reply.new.desk) (g.K.Desk.view c.leave.new.desk) _ _ c.args.plan.images c.install-reply.result
    (grew_goes _ _ _ _ _ _ _ _ taken) (grew_goes _ _ _ _ _ _ _ _ (c.leave.ensures (closed dir c.install-reply.result) repo)) taken.does.firm.0
    (c.install-reply.ensures.images dir there c.in-Ok.ensures.images.0 c.in-Ok.ensures.images.1)

pub returns-in-Err-clause-images : goal.returns-in-Err-clause-images
returns-in-Err-clause-images g c = λ dir at. tells_early _ _ _ c.args.plan.images c.in-Err.reply c.in-Err.ensures.images
