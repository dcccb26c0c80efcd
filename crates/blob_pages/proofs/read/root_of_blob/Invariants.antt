use Rattle.std.proofs.Common.{◌≡◌, ℕ, ◌+◌, ◌-◌, ◌*◌, ◌≤◌, min, List}
use Rattle.pkg_merkle.specs.Hasher.{StandsFor}
use Rattle.disk_model.specs.Past.{RoseBy}
use Rattle.blob_pages.specs.Chains.{AreRead}
use Rattle.blob_pages.proofs.read.root_of_blob.Given as goal

abbrev pub invariant-loop-k : goal.invariant-loop-k
invariant-loop-k g l =
    let disk = g.D.Disk in
    record {
      rest : l.rest ≡ l.len - 8192 * l.k;
      read : (bytes : List ℕ) × StandsFor l.hasher bytes × AreRead (disk.past l.fn.disk) l.start l.chain l.len (min (2 * l.k) l.count) bytes;
      past_stays : disk.past l.disk ≡ disk.past l.fn.disk;
      pages_stay : disk.pages l.disk ≡ disk.pages l.fn.disk;
      tie_stays : disk.tie l.disk ≡ disk.tie l.fn.disk;
      reads : RoseBy (min (2 * l.k) l.count) (disk.reads l.fn.disk) (disk.reads l.disk);
      few : disk.reads l.disk ≤ disk.reads l.fn.disk + min (2 * l.k) l.count;
      faults_never_fall : disk.faults l.fn.disk ≤ disk.faults l.disk;
    }
