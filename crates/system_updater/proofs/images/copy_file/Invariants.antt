use Rattle.std.proofs.Common.{◌≡◌, List, [], Some}
use Rattle.open_tracker.specs.Directories.{root_of}
use Rattle.pkg_names.specs.declared.root.Root.{Root}
use Rattle.store_model.specs.Desk.Keeping.{Image}
use Rattle.system_updater.specs.Filled.{IsBegun, KeepsOther}
use Rattle.store_model.specs.declared.replies.Dir.{Dir}
use Rattle.store_model.specs.Desk.{held_by}
use Rattle.system_updater.specs.declared.plan.Plan.{Plan}
use Rattle.system_updater.specs.Plan.{Task}
use Rattle.system_updater.specs.Serving.Point.{Copying}
use Rattle.system_updater.specs.Viewing.{Told}
use Rattle.system_updater.specs.Steps.{Goes}
use Rattle.system_updater.proofs.images.copy_file.Given as goal

abbrev pub invariant-loop : goal.invariant-loop
invariant-loop g l = record {
  next : (goal.iterator-loop g).can_next l.iterator';
  finite : (goal.iterator-loop g).is_finite l.iterator';
  goes : (dir : Dir) (plan : Plan) (task : Task) (later : List Task) (repo : Told) → task.kind ≡ l.kind → task.image.url.file ≡ Some l.file
      → Goes (Copying dir plan task l.from later) (Copying dir plan task l.from later) (g.K.Desk.view l.initial.desk) (g.K.Desk.view l.desk) repo repo (g.K.Desk.firm l.initial.desk) (g.K.Desk.firm l.desk);
  held : held_by (g.K.Desk.view l.desk) ≡ held_by (g.K.Desk.view l.initial.desk);
  images : (root : Root) → root_of (held_by (g.K.Desk.view l.initial.desk)).dirs l.from.number (g.K.Desk.view l.initial.desk).lane ≡ Some root → g.K.Desk.kept l.initial.desk (Image l.kind) []
      → IsBegun (g.K.Desk.kept l.desk) (g.K.Desk.view l.desk) l.kind l.from.number l.file × KeepsOther l.kind (g.K.Desk.kept l.initial.desk) (g.K.Desk.kept l.desk)
      × ((g.K.Desk.view l.desk).lane ≡ (g.K.Desk.view l.initial.desk).lane) × (g.K.Desk.firm l.initial.desk → g.K.Desk.firm l.desk);
}
