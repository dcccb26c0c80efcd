use Rattle.std.proofs.Common.{◌≡◌, ◌≤◌, Bool}
use Rattle.disk_model.specs.Images.{SomeImage}
use Rattle.node_table.specs.Table.{HasTable}
use Rattle.blob_disk.proofs.GoodBlobs.{GoodTo}
use Rattle.blob_disk.proofs.checking.check_all.Given as goal

abbrev pub invariant-loop-entry : goal.invariant-loop-entry
invariant-loop-entry g l =
    let disk = g.D.Disk in
    record {
      good : (second : Bool) → SomeImage (disk.past l.fn.disk) (HasTable l.geometry second l.entries) → SomeImage (disk.past l.fn.disk) (GoodTo l.geometry second l.entries l.entry-index);
      past_stays : disk.past l.disk ≡ disk.past l.fn.disk;
      pages_stay : disk.pages l.disk ≡ disk.pages l.fn.disk;
      tie_stays : disk.tie l.disk ≡ disk.tie l.fn.disk;
      faults_never_fall : disk.faults l.fn.disk ≤ disk.faults l.disk;
    }
