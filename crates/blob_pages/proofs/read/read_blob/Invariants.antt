use Rattle.std.proofs.Common.{◌≡◌, ◌+◌, ◌-◌, ◌*◌, ◌≤◌, vec_capacity}
use Rattle.disk_model.specs.Past.{RoseBy}
use Rattle.blob_pages.specs.Chains.{AreRead}
use Rattle.blob_pages.proofs.read.read_blob.Given as goal

abbrev pub invariant-loop-number : goal.invariant-loop-number
invariant-loop-number g l =
    let disk = g.D.Disk in
    record {
      rest : l.rest ≡ l.len - 4096 * l.number-index;
      read : AreRead (disk.past l.fn.disk) l.start l.chain l.len l.number-index l.out.items;
      room : l.len ≤ vec_capacity l.out;
      past_stays : disk.past l.disk ≡ disk.past l.fn.disk;
      pages_stay : disk.pages l.disk ≡ disk.pages l.fn.disk;
      tie_stays : disk.tie l.disk ≡ disk.tie l.fn.disk;
      reads : RoseBy l.number-index (disk.reads l.fn.disk) (disk.reads l.disk);
      few : disk.reads l.disk ≤ disk.reads l.fn.disk + l.number-index;
      faults_never_fall : disk.faults l.fn.disk ≤ disk.faults l.disk;
    }
