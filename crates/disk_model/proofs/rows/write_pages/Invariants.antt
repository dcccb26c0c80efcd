use Rattle.std.proofs.Common.{◌≡◌, ◌+◌, ◌≤◌, length, take, IfSome}
use Rattle.disk_model.specs.Past.{IsPast, page_at}
use Rattle.disk_model.specs.Images.{row_acts, with_acts, IsInRow, AllWritten, WritesOnly}
use Rattle.disk_model.proofs.rows.write_pages.Given as goal

abbrev pub invariant-loop-i : goal.invariant-loop-i
invariant-loop-i g l =
    let disk = g.D.Disk in
    record {
      acts : disk.past l.disk ≡ with_acts (disk.past l.fn.disk) (row_acts l.first (take l.i l.pages));
      written : AllWritten (disk.past l.disk) (λ i. l.first + i) (page_at l.pages) l.i;
      only : WritesOnly (disk.past l.fn.disk) (disk.past l.disk) (IsInRow l.first (length l.pages));
      pages_stay : disk.pages l.disk ≡ disk.pages l.fn.disk;
      tie_stays : disk.tie l.disk ≡ disk.tie l.fn.disk;
      reads_stay : disk.reads l.disk ≡ disk.reads l.fn.disk;
      faults_never_fall : disk.faults l.fn.disk ≤ disk.faults l.disk;
      told_before : IfSome (disk.past l.fn.disk) (IsPast (disk.pages l.fn.disk));
      told : IfSome (disk.past l.disk) (IsPast (disk.pages l.disk));
    }
