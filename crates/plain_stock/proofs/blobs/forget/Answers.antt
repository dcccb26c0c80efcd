use Rattle.std.proofs.Common.{ℕ, Bool, cond, None, Option, [], get_or, take, sym, ap, ◌∙◌}
use Rattle.std.specs.BTreeMap.{get}
use Rattle.std.proofs.lemmas.List.Folds.{list_any_more}
use Rattle.pkg_names.specs.declared.root.Root.{Root}
use Rattle.pkg_names.specs.Root.{root_eq}
use Rattle.store_model.specs.State.{has_root}
use Rattle.plain_stock.specs.Stocks.{root_cmp}
use Rattle.plain_stock.proofs.Stocks.{is_eq-root_cmp, both_gone}
use Rattle.plain_stock.proofs.blobs.forget.Goals as goal

pub loop-root-preserved : goal.loop-root-preserved
loop-root-preserved c other =
    let d : Root = record { 0 = [] } in
    let roots = c.args.roots.now in
    let i = c.loop-root.root-index in
    let root = get_or roots i d in
    let before = get root_cmp c.args.lens.now other in
    c.remove.ensures.updates.0 other
    ∙ ap (λ (b : Bool). cond b None (get root_cmp c.loop-root.lens other)) (is_eq-root_cmp root other)
    ∙ ap (λ (found : Option ℕ). cond (root_eq root other) None found) (c.loop-root.invariant other)
    ∙ both_gone (root_eq root other) (has_root (take i roots) other) before
    ∙ ap (λ (b : Bool). cond b None before) (sym (list_any_more (λ (x : Root). root_eq x other) roots i d c.loop-root-test.true))
