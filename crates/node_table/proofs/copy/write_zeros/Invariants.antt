use Rattle.std.proofs.Common.{◌≡◌, ◌+◌, ◌≤◌, [], IfSome}
use Rattle.disk_model.specs.Past.{zero_page, IsPast}
use Rattle.disk_model.specs.Images.{IsInRow, AllWritten, WritesOnly}
use Rattle.node_table.specs.Table.{WritesRow}
use Rattle.node_table.proofs.copy.write_zeros.Given as goal

abbrev pub invariant-loop-j : goal.invariant-loop-j
invariant-loop-j g l =
    let disk = g.D.Disk in
    record {
      written : AllWritten (disk.past l.disk) (λ i. l.first + i) (λ _. zero_page) l.j;
      acts : WritesRow l.first l.j [] (disk.past l.fn.disk) (disk.past l.disk);
      only : WritesOnly (disk.past l.fn.disk) (disk.past l.disk) (IsInRow l.first l.count);
      pages_stay : disk.pages l.disk ≡ disk.pages l.fn.disk;
      tie_stays : disk.tie l.disk ≡ disk.tie l.fn.disk;
      reads_stay : disk.reads l.disk ≡ disk.reads l.fn.disk;
      faults_never_fall : disk.faults l.fn.disk ≤ disk.faults l.disk;
      told : IfSome (disk.past l.disk) (IsPast (disk.pages l.disk));
    }
