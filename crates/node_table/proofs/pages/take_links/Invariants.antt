use Rattle.std.proofs.Common.{◌≡◌, ◌+◌, ◌++◌, map, vec_len, vec_capacity}
use Rattle.std.specs.List.{range_with_len}
use Rattle.node_table.specs.Spelling.{link_on}
use Rattle.node_table.proofs.pages.take_links.Given as goal

abbrev pub invariant-loop-k : goal.invariant-loop-k
invariant-loop-k l = record {
  links : l.links.items ≡ l.fn.links.items ++ map (link_on l.page) (range_with_len 0 l.k);
  len : vec_len l.links ≡ vec_len l.fn.links + l.k;
  capacity : vec_capacity l.links ≡ vec_capacity l.fn.links;
}
