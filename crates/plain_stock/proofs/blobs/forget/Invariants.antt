use Rattle.std.proofs.Common.{◌≡◌, cond, None, take}
use Rattle.std.specs.BTreeMap.{get}
use Rattle.pkg_names.specs.declared.root.Root.{Root}
use Rattle.store_model.specs.State.{has_root}
use Rattle.plain_stock.specs.Stocks.{root_cmp}
use Rattle.plain_stock.proofs.blobs.forget.Given as goal

abbrev pub invariant-loop-root : goal.invariant-loop-root
invariant-loop-root l =
    (other : Root) → get root_cmp l.lens other ≡ cond (has_root (take l.root-index l.roots) other) None (get root_cmp l.fn.lens other)
