use Rattle.std.proofs.Common.{◌≡◌, List, map, IfOk, ap, subst, ◌∙◌}
use Rattle.pkg_names.specs.declared.root.Root.{Root}
use Rattle.open_tracker.specs.declared.dirs.DirEntry.{DirEntry}
use Rattle.package_indexes.specs.Indexes.{protected}
use Rattle.package_indexes.specs.Sets.{protected_by}
use Rattle.store_model.specs.State.{protected_in}
use Rattle.plain_state.proofs.Joined.{joined_roots}
use Rattle.plain_state.proofs.state.State.protected.Goals as goal

pub returns : goal.returns
returns c =
    let indexes = c.self.inside.indexes in
    let dirs = map (λ (d : DirEntry). d.root) c.self.inside.dirs in
    let same : protected_by indexes c.self.inside.dirs ≡ protected_in c.args.self.now =
    ap (λ (arriving : List Root). protected indexes.base indexes.cached indexes.active indexes.retained arriving dirs)
    (joined_roots indexes.arriving c.self.inside.queue.marks c.self.invariant)
    ∙ ap protected_in c.self.view_is in
    subst (λ (roots : List Root). IfOk c.protected.result (λ found. found ≡ roots)) same c.protected.ensures
