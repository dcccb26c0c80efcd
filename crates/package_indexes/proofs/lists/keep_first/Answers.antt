use Rattle.std.proofs.Common.{◌≡◌, ◌+◌, ◌<◌, Bool, true, false, take, [], length, get_or, sym, ap, ◌∙◌, arith}
use Rattle.std.proofs.lemmas.Grind.{common_steps}
use Rattle.pkg_names.specs.declared.root.Root.{Root}
use Rattle.package_indexes.specs.Sets.{has_root, each_once}
use Rattle.package_indexes.proofs.Once.{dropped_again, front_stays, front_grows}
use Rattle.package_indexes.proofs.lists.keep_first.Goals as goal

pub loop-kept-preserved-then-is_among : goal.loop-kept-preserved-then-is_among
loop-kept-preserved-then-is_among c =
    let has : has_root (take c.loop-kept.kept c.loop-kept.roots.items) c.remove.result ≡ true = grind (arith, common_steps, c.remove.ensures.value) in
    let inside : c.loop-kept.kept < length c.loop-kept.roots.items = omega arith in
    record {
      same = ap each_once c.remove.ensures.items ∙ dropped_again c.loop-kept.roots.items c.loop-kept.kept c.remove.result inside c.remove.ensures.value has ∙ c.loop-kept.invariant.same;
      front = rw (c.remove.ensures.items, front_stays c.loop-kept.roots.items c.loop-kept.kept inside) c.loop-kept.invariant.front;
      within = omega arith;
    }

pub loop-kept-preserved : goal.loop-kept-preserved
loop-kept-preserved c =
    let d : Root = record { 0 = [] } in
    let inside : c.loop-kept.kept < length c.loop-kept.roots.items = omega arith in
    let new : has_root (take c.loop-kept.kept c.loop-kept.roots.items) (get_or c.loop-kept.roots.items c.loop-kept.kept d) ≡ false = grind (arith, common_steps) in
    record {
      same = c.loop-kept.invariant.same;
      front = front_grows c.loop-kept.roots.items c.loop-kept.kept d inside c.loop-kept.invariant.front new;
      within = omega arith;
    }
