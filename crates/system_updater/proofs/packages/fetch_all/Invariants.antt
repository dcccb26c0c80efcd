use Rattle.std.proofs.Common.{drop}
use Rattle.store_model.specs.declared.replies.Dir.{Dir}
use Rattle.store_model.specs.Desk.{KeepsImages}
use Rattle.system_updater.specs.declared.plan.Plan.{Plan}
use Rattle.system_updater.specs.Serving.Point.{Fetching}
use Rattle.system_updater.specs.Holding.{HoldsAt}
use Rattle.system_updater.specs.Viewing.{told}
use Rattle.system_updater.specs.Steps.{Goes}
use Rattle.system_updater.proofs.packages.fetch_all.Given as goal

abbrev pub invariant-loop-pinned : goal.invariant-loop-pinned
invariant-loop-pinned g l = record {
  goes : (dir : Dir) (plan : Plan) → HoldsAt (Fetching dir plan l.packages) (g.K.Desk.view l.initial.desk)
      → Goes (Fetching dir plan l.packages) (Fetching dir plan (drop l.pinned-index l.packages)) (g.K.Desk.view l.initial.desk) (g.K.Desk.view l.desk)
      (told (g.R.Repo.listing l.initial.repo) (g.R.Repo.files l.initial.repo) (g.R.Repo.faults l.initial.repo) (g.R.Repo.fetches l.initial.repo))
      (told (g.R.Repo.listing l.repo) (g.R.Repo.files l.repo) (g.R.Repo.faults l.repo) (g.R.Repo.fetches l.repo)) (g.K.Desk.firm l.initial.desk) (g.K.Desk.firm l.desk);
  images : KeepsImages (g.K.Desk.kept l.initial.desk) (g.K.Desk.kept l.desk);
}
