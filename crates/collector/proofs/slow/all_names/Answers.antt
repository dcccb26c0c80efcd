use Rattle.std.proofs.Common.{◌≡◌, Bool, ◌||◌, List, [], get_or, sym, ap, ◌∙◌}
use Rattle.pkg_names.specs.declared.root.Root.{Root}
use Rattle.package_book.specs.Names.{names}
use Rattle.package_book.specs.Unprotected.{has_root}
use Rattle.collector.specs.Sets.{is_in}
use Rattle.collector.proofs.NameLists.{named_more}
use Rattle.collector.proofs.slow.all_names.Goals as goal

pub loop-top-preserved : goal.loop-top-preserved
loop-top-preserved c root =
    let d : Root = record { 0 = [] } in
    let tops = c.args.tops.now in
    let i = c.loop-top.top-index in
    let top = get_or tops i d in
    let shelf = c.args.shelf.now in
    let named : c.as_slice.result.now ≡ names top shelf = c.as_slice.ensures.list ∙ c.in_ok-names.ensures in
    c.in_ok-add_roots.ensures root
    ∙ ap (λ (l : List Root). is_in c.loop-top.named root || has_root l root) named
    ∙ ap (λ (b : Bool). b || has_root (names top shelf) root) (c.loop-top.invariant root)
    ∙ sym (named_more tops i d shelf root c.loop-top-test.true)
