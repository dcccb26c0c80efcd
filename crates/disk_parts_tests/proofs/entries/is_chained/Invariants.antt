use Rattle.std.proofs.Common.{ℕ, ◌<◌, get_or, Contains}
use Rattle.node_table.specs.declared.entry.Entry.{Entry}
use Rattle.disk_parts_tests.proofs.entries.is_chained.Given as goal

abbrev pub invariant-loop-entry : goal.invariant-loop-entry
invariant-loop-entry l = (k : ℕ) (d : Entry) → k < l.entry-index → Contains (get_or l.entries k d).pages l.page → ⊥
