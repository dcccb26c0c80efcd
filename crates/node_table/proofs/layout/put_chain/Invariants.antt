use Rattle.std.proofs.Common.{◌≡◌, ◌≢◌, ℕ, ◌+◌, ◌<◌, get_or}
use Rattle.node_table.specs.declared.entry.TheConstants.{CHAIN_END}
use Rattle.node_table.specs.Steps.{link_from}
use Rattle.node_table.proofs.layout.put_chain.Given as goal

abbrev pub invariant-loop-k : goal.invariant-loop-k
invariant-loop-k l = record {
  chain : (j : ℕ) → j < l.k → link_from l.links (get_or l.pages j 0) ≡ get_or l.pages (j + 1) CHAIN_END;
  others : (page : ℕ) → ((j : ℕ) → j < l.k → get_or l.pages j 0 ≢ page) → link_from l.links page ≡ link_from l.fn.links page;
}
