use Rattle.std.proofs.Common.{◌≡◌, ◌≤◌, ◌+◌, length, IfSome}
use Rattle.std.specs.List.{AllByRecursion}
use Rattle.disk_model.specs.Past.{IsPage, RoseBy}
use Rattle.disk_model.specs.Disks.{ReadsPages}
use Rattle.disk_model.proofs.copy.read_pages.Given as goal

abbrev pub invariant-loop-page : goal.invariant-loop-page
invariant-loop-page g l =
    let disk = g.D.Disk in
    record {
      pages : AllByRecursion IsPage l.pages.items;
      size : length l.pages.items ≡ l.page;
      read : IfSome (disk.past l.fn.disk) (λ past. ReadsPages past l.page l.pages.items);
      past_stays : disk.past l.disk ≡ disk.past l.fn.disk;
      tie_stays : disk.tie l.disk ≡ disk.tie l.fn.disk;
      pages_stay : disk.pages l.disk ≡ disk.pages l.fn.disk;
      counted : RoseBy l.page (disk.reads l.fn.disk) (disk.reads l.disk);
      reads : disk.reads l.disk ≤ disk.reads l.fn.disk + l.page;
      faults_never_fall : disk.faults l.fn.disk ≤ disk.faults l.disk;
    }
