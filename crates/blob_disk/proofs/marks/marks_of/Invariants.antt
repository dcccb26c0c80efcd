use Rattle.std.proofs.Common.{take}
use Rattle.blob_disk.specs.Pooled.{IsPooled}
use Rattle.blob_disk.proofs.marks.marks_of.Given as goal

abbrev pub invariant-loop-entry : goal.invariant-loop-entry
invariant-loop-entry l = record {
  pooled : IsPooled (take l.entry-index l.entries) l.marks.items l.geometry.data_pages;
}
