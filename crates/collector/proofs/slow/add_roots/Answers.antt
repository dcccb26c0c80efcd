use Rattle.std.proofs.Common.{Bool, ◌||◌, [], get_or, take, sym, ap, ◌∙◌}
use Rattle.std.proofs.lemmas.List.Folds.{list_any_more}
use Rattle.pkg_names.specs.declared.root.Root.{Root}
use Rattle.pkg_names.specs.Root.{root_eq}
use Rattle.package_book.specs.Unprotected.{has_root}
use Rattle.collector.specs.Sets.{is_in}
use Rattle.collector.proofs.Maps.{is_in_more, or_assoc}
use Rattle.collector.proofs.slow.add_roots.Goals as goal

pub loop-root-preserved : goal.loop-root-preserved
loop-root-preserved c other =
    let d : Root = record { 0 = [] } in
    let roots = c.args.roots.now in
    let i = c.loop-root.root-index in
    let root = get_or roots i d in
    is_in_more root c.loop-root.set c.insert.new.self c.in_ok-insert.ensures.updates.0 other
    ∙ ap (λ (b : Bool). b || root_eq root other) (c.loop-root.invariant other)
    ∙ or_assoc (is_in c.args.set.now other) (has_root (take i roots) other) (root_eq root other)
    ∙ ap (λ (b : Bool). is_in c.args.set.now other || b) (sym (list_any_more (λ (x : Root). root_eq x other) roots i d c.loop-root-test.true))
