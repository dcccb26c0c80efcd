use Rattle.std.proofs.Common.{◌≢◌, ℕ, ◌<◌, get_or}
use Rattle.node_table.specs.declared.entry.Entry.{Entry}
use Rattle.blob_disk_tests.proofs.looks.are_others.Given as goal

abbrev pub invariant-loop-entry : goal.invariant-loop-entry
invariant-loop-entry l = (k : ℕ) (d : Entry) → k < l.entry-index → (get_or l.entries k d).root ≢ l.root
