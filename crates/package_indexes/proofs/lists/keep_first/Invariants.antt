use Rattle.std.proofs.Common.{◌≡◌, ◌≤◌, ◌-◌, take, vec_len}
use Rattle.package_indexes.specs.Sets.{each_once}
use Rattle.package_indexes.proofs.lists.keep_first.Given as goal

abbrev pub invariant-loop-kept : goal.invariant-loop-kept
invariant-loop-kept l = record {
  same : each_once l.roots.items ≡ each_once l.fn.roots.items;
  front : each_once (take l.kept l.roots.items) ≡ take l.kept l.roots.items;
  within : l.kept ≤ vec_len l.roots;
}

abbrev pub decreases-loop-kept : goal.decreases-loop-kept
decreases-loop-kept l = vec_len l.roots - l.kept
