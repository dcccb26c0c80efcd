use Rattle.std.proofs.Common.{ℕ, ◌<◌, get_or}
use Rattle.node_table.specs.Entries.{IsChained}
use Rattle.disk_parts_tests.proofs.entries.are_free.Given as goal

abbrev pub invariant-loop-page : goal.invariant-loop-page
invariant-loop-page l = (k d : ℕ) → k < l.page-index → IsChained l.entries (get_or l.pages k d) → ⊥
