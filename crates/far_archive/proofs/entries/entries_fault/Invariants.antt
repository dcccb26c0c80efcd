use Rattle.std.proofs.Common.{◌≡◌, ◌-◌}
use Rattle.far_archive.specs.Fields.{count}
use Rattle.far_archive.specs.Faults.{name_before, floor, entries_fault}
use Rattle.far_archive.proofs.entries.entries_fault.Given as goal

abbrev pub invariant-loop-k : goal.invariant-loop-k
invariant-loop-k l = record {
  name : l.before.name.now ≡ name_before l.bytes l.k;
  end : l.before.end ≡ floor l.bytes l.k;
  left : entries_fault l.bytes l.k (count l.bytes - l.k) ≡ entries_fault l.bytes 0 (count l.bytes);
}
