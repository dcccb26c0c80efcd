use Rattle.std.proofs.Common.{◌≡◌, ℕ, ◌+◌, ◌*◌, ◌<◌, ◌≤◌, length, vec_capacity}
use Rattle.node_table.specs.Steps.{ReadAs, HasRows}
use Rattle.node_table.proofs.copy.read_rows.Given as goal

abbrev pub invariant-loop-j : goal.invariant-loop-j
invariant-loop-j g l =
    let disk = g.D.Disk in
    record {
      size : length l.rows.items ≡ 64 * l.j;
      capacity : vec_capacity l.rows ≡ vec_capacity l.fn.rows;
      read : (i : ℕ) → i < l.j → ReadAs (disk.past l.fn.disk) (l.first + i) (HasRows l.rows.items i);
      past_stays : disk.past l.disk ≡ disk.past l.fn.disk;
      pages_stay : disk.pages l.disk ≡ disk.pages l.fn.disk;
      tie_stays : disk.tie l.disk ≡ disk.tie l.fn.disk;
      faults_never_fall : disk.faults l.fn.disk ≤ disk.faults l.disk;
    }
