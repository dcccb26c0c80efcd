use Rattle.std.proofs.Common.{◌≡◌, ℕ, ◌+◌, ◌-◌, ◌/◌, ◌≤◌, ◌++◌, List, length, take, IfSome}
use Rattle.disk_model.specs.Past.{IsPast}
use Rattle.disk_model.specs.Images.{WritesOnly, IsInRow}
use Rattle.slot_disk.specs.Filling.{page_of, page_count, AreWritten}
use Rattle.slot_disk.proofs.write.write_piece.Given as goal

abbrev pub invariant-loop-done : goal.invariant-loop-done
invariant-loop-done g l =
    let disk = g.D.Disk in
    record {
      within : l.done ≤ length l.piece;
      next : (bytes : List ℕ) → length bytes ≡ l.len → l.fn.next ≡ page_of bytes (length bytes / 4096) → l.next ≡ page_of (bytes ++ take l.done l.piece) (length (bytes ++ take l.done l.piece) / 4096);
      written : (bytes : List ℕ) → length bytes ≡ l.len → l.fn.next ≡ page_of bytes (length bytes / 4096) → AreWritten (disk.past l.fn.disk) l.first bytes → AreWritten (disk.past l.disk) l.first (bytes ++ take l.done l.piece);
      only : WritesOnly (disk.past l.fn.disk) (disk.past l.disk) (IsInRow l.first (page_count (l.len + length l.piece)));
      pages_stay : disk.pages l.disk ≡ disk.pages l.fn.disk;
      tie_stays : disk.tie l.disk ≡ disk.tie l.fn.disk;
      reads_stay : disk.reads l.disk ≡ disk.reads l.fn.disk;
      faults_never_fall : disk.faults l.fn.disk ≤ disk.faults l.disk;
      told : IfSome (disk.past l.disk) (IsPast (disk.pages l.disk));
    }

abbrev pub decreases-loop-done : goal.decreases-loop-done
decreases-loop-done g l = length l.piece - l.done
