use Rattle.std.proofs.Common.{◌≡◌, ◌+◌, ◌-◌, ◌*◌, ◌≤◌, IfSome}
use Rattle.disk_model.specs.Past.{IsPast}
use Rattle.disk_model.specs.Images.{SomeImage}
use Rattle.slot_disk.specs.Filling.{page_count}
use Rattle.slot_disk.proofs.ReadSteps.{HoldsRow}
use Rattle.slot_disk.proofs.read.sha_of_row.Given as goal

-- the pages before this number are read, and the hasher holds the bytes that they have in some image
abbrev pub invariant-loop-rest : goal.invariant-loop-rest
invariant-loop-rest g l =
    let disk = g.D.Disk in
    record {
      from : l.first ≤ l.number;
      within : l.number ≤ l.first + page_count l.len;
      rest : l.rest ≡ l.len - 4096 * (l.number - l.first);
      read : SomeImage (disk.past l.fn.disk) (HoldsRow l.hasher l.len l.first (l.number - l.first));
      past_stays : disk.past l.disk ≡ disk.past l.fn.disk;
      pages_stay : disk.pages l.disk ≡ disk.pages l.fn.disk;
      tie_stays : disk.tie l.disk ≡ disk.tie l.fn.disk;
      faults_never_fall : disk.faults l.fn.disk ≤ disk.faults l.disk;
      told : IfSome (disk.past l.disk) (IsPast (disk.pages l.disk));
    }

abbrev pub decreases-loop-rest : goal.decreases-loop-rest
decreases-loop-rest g l = l.rest
