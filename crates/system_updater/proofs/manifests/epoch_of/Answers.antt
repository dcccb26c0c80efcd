use Rattle.std.proofs.Common.{refl}
use Rattle.system_updater.specs.Serving.Prior.{NothingRead, EpochRead}
use Rattle.system_updater.specs.Serving.Point.{Reading}
use Rattle.system_updater.proofs.Judging.{judged_goes}
use Rattle.system_updater.proofs.Grown.{judges_early}
use Rattle.system_updater.proofs.manifests.epoch_of.Goals as goal

pub returns-clause-goes : goal.returns-clause-goes
returns-clause-goes g c = λ repo.
    judged_goes (λ epoch. Reading c.args.dir (EpochRead epoch)) c.args.dir NothingRead c.in_ok-found.found c.judge_epoch.result _ _ _ repo _ _ (c.in_ok-found.ensures.goes NothingRead repo refl) (c.judge_epoch.ensures c.args.dir)

pub returns-clause-early : goal.returns-clause-early
returns-clause-early g c = judges_early _ c.args.dir c.judge_epoch.result _ (c.judge_epoch.ensures c.args.dir)
