use Rattle.std.proofs.Common.{refl}
use Rattle.system_updater.specs.Serving.Prior.{EpochRead, PackagesRead}
use Rattle.system_updater.specs.Serving.Point.{Reading}
use Rattle.system_updater.proofs.Judging.{judged_goes}
use Rattle.system_updater.proofs.Grown.{judges_early}
use Rattle.system_updater.proofs.manifests.packages_of.Goals as goal

pub returns-clause-goes : goal.returns-clause-goes
returns-clause-goes g c = λ epoch repo.
    judged_goes (λ packages. Reading c.args.dir (PackagesRead epoch packages)) c.args.dir (EpochRead epoch) c.in_ok-found.found c.judge_packages.result _ _ _ repo _ _ (c.in_ok-found.ensures.goes (EpochRead epoch) repo refl) (c.judge_packages.ensures.judges c.args.dir epoch)

pub returns-clause-early : goal.returns-clause-early
returns-clause-early g c = judges_early _ c.args.dir c.judge_packages.result _ (c.judge_packages.ensures.judges c.args.dir 0)
