use Rattle.std.proofs.Common.{◌≡◌, ℕ, ◌<◌, length, get_or}
use Rattle.node_table.specs.declared.rows.Row.{Row}
use Rattle.node_table.specs.Spelling.{row_on}
use Rattle.node_table.proofs.pages.put_rows.Given as goal

abbrev pub invariant-loop-k : goal.invariant-loop-k
invariant-loop-k l = record {
  size : length l.page ≡ 4096;
  made : (j : ℕ) (d : Row) → j < l.k → row_on l.page j ≡ get_or l.rows j d;
}
