use Rattle.std.proofs.Common.{◌≡◌, length, vec_capacity}
use Rattle.node_table.specs.Steps.{link_from}
use Rattle.node_table.proofs.WalkLemmas.{IsFollowed}
use Rattle.node_table.proofs.admit.walk.Given as goal

abbrev pub invariant-loop-k : goal.invariant-loop-k
invariant-loop-k l = record {
  followed : IsFollowed (link_from l.links) l.fn.taken l.taken l.first l.count l.pages.items l.page;
  size : length l.pages.items ≡ l._k;
  capacity : vec_capacity l.pages ≡ vec_capacity l.fn.pages;
}
