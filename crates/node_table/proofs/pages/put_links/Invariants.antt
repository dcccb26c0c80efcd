use Rattle.std.proofs.Common.{◌≡◌, ℕ, ◌<◌, length, get_or}
use Rattle.node_table.specs.Spelling.{link_on}
use Rattle.node_table.proofs.pages.put_links.Given as goal

abbrev pub invariant-loop-k : goal.invariant-loop-k
invariant-loop-k l = record {
  size : length l.page ≡ 4096;
  made : (j d : ℕ) → j < l.k → link_on l.page j ≡ get_or l.links j d;
}
