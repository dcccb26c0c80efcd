use Rattle.std.proofs.Common.{◌≡◌, ℕ, ◌-◌, ◌≤◌, ◌++◌, List, take, drop, IfSome}
use Rattle.disk_model.specs.Images.{EachImage}
use Rattle.blob_pages.specs.Chains.{bytes_in}
use Rattle.blob_pages.proofs.part.read_part.Given as goal

abbrev pub invariant-loop-done : goal.invariant-loop-done
invariant-loop-done g l =
    let disk = g.D.Disk in
    record {
      within : l.done ≤ l.count;
      part : (blob : List ℕ) → EachImage (disk.past l.fn.disk) (λ image. bytes_in l.start l.chain l.len image ≡ blob) → IfSome (disk.past l.fn.disk) (λ _. l.out ≡ take l.done (drop l.from blob) ++ drop l.done l.fn.out);
      past_stays : disk.past l.disk ≡ disk.past l.fn.disk;
      pages_stay : disk.pages l.disk ≡ disk.pages l.fn.disk;
      tie_stays : disk.tie l.disk ≡ disk.tie l.fn.disk;
      faults_never_fall : disk.faults l.fn.disk ≤ disk.faults l.disk;
    }

abbrev pub decreases-loop-done : goal.decreases-loop-done
decreases-loop-done g l = l.count - l.done
