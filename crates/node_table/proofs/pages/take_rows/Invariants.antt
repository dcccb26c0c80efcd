use Rattle.std.proofs.Common.{◌≡◌, ◌+◌, ◌++◌, map, vec_len, vec_capacity}
use Rattle.std.specs.List.{range_with_len}
use Rattle.node_table.specs.Spelling.{row_on}
use Rattle.node_table.proofs.pages.take_rows.Given as goal

abbrev pub invariant-loop-k : goal.invariant-loop-k
invariant-loop-k l = record {
  rows : l.rows.items ≡ l.fn.rows.items ++ map (row_on l.page) (range_with_len 0 l.k);
  len : vec_len l.rows ≡ vec_len l.fn.rows + l.k;
  capacity : vec_capacity l.rows ≡ vec_capacity l.fn.rows;
}
