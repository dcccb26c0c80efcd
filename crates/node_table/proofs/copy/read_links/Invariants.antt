use Rattle.std.proofs.Common.{◌≡◌, ℕ, ◌+◌, ◌*◌, ◌<◌, ◌≤◌, length, vec_capacity}
use Rattle.node_table.specs.Steps.{ReadAs, HasLinks}
use Rattle.node_table.proofs.copy.read_links.Given as goal

abbrev pub invariant-loop-j : goal.invariant-loop-j
invariant-loop-j g l =
    let disk = g.D.Disk in
    record {
      size : length l.links.items ≡ 1024 * l.j;
      capacity : vec_capacity l.links ≡ vec_capacity l.fn.links;
      read : (i : ℕ) → i < l.j → ReadAs (disk.past l.fn.disk) (l.first + i) (HasLinks l.links.items i);
      past_stays : disk.past l.disk ≡ disk.past l.fn.disk;
      pages_stay : disk.pages l.disk ≡ disk.pages l.fn.disk;
      tie_stays : disk.tie l.disk ≡ disk.tie l.fn.disk;
      faults_never_fall : disk.faults l.fn.disk ≤ disk.faults l.disk;
    }
