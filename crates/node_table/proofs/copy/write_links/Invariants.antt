use Rattle.std.proofs.Common.{◌≡◌, ℕ, ◌+◌, ◌<◌, ◌≤◌, [], IfSome}
use Rattle.disk_model.specs.Past.{IsPast}
use Rattle.disk_model.specs.Images.{IsInRow, WritesOnly}
use Rattle.node_table.specs.Steps.{WrittenAs, HasLinks}
use Rattle.node_table.specs.Table.{WritesRow}
use Rattle.node_table.proofs.copy.write_links.Given as goal

abbrev pub invariant-loop-j : goal.invariant-loop-j
invariant-loop-j g l =
    let disk = g.D.Disk in
    record {
      written : (i : ℕ) → i < l.j → WrittenAs (disk.past l.disk) (l.first + i) (HasLinks l.links i);
      acts : WritesRow l.first l.j [] (disk.past l.fn.disk) (disk.past l.disk);
      only : WritesOnly (disk.past l.fn.disk) (disk.past l.disk) (IsInRow l.first l.count);
      pages_stay : disk.pages l.disk ≡ disk.pages l.fn.disk;
      tie_stays : disk.tie l.disk ≡ disk.tie l.fn.disk;
      reads_stay : disk.reads l.disk ≡ disk.reads l.fn.disk;
      faults_never_fall : disk.faults l.fn.disk ≤ disk.faults l.disk;
      told : IfSome (disk.past l.disk) (IsPast (disk.pages l.disk));
    }
