use Rattle.std.proofs.Common.{rules, ◌≡◌, ◌≢◌, List, sym, subst, ap, ◌∙◌}
use Rattle.std.proofs.lemmas.Fn.{filter_same}
use Rattle.std.proofs.lemmas.List.Kept.{AllPairs-filter}
use Rattle.open_tracker.specs.declared.dirs.DirEntry.{DirEntry}
use Rattle.open_tracker.specs.Directories.{without, AreDistinct}
use Rattle.open_tracker.proofs.dirs.Dirs.close.Goals as goal

pub invariant_of-self : goal.invariant_of-self
invariant_of-self c =
    let kept : c.retain.new.self.items ≡ without c.self.inside.dirs.items c.args.number c.args.lane =
    filter_same _ _ _ (λ x b f' k. search rules) _ _ c.retain.ensures.filtered in
    subst AreDistinct (sym kept) (AllPairs-filter (λ (a b : DirEntry). a.number ≢ b.number) _ c.self.inside.dirs.items c.self.invariant)

pub returns-clause-closed : goal.returns-clause-closed
returns-clause-closed c =
    let kept : c.retain.new.self.items ≡ without c.self.inside.dirs.items c.args.number c.args.lane =
    filter_same _ _ _ (λ x b f' k. search rules) _ _ c.retain.ensures.filtered in
    kept ∙ ap (λ (dirs : List DirEntry). without dirs c.args.number c.args.lane) c.self.view_is
