use Rattle.std.proofs.Common.{◌+◌, ◌≤◌, take}
use Rattle.std.specs.HashMap.{hash_map_len, spare}
use Rattle.node_table.specs.Steps.{IsIndex}
use Rattle.node_table.proofs.index.fill_index.Given as goal

abbrev pub invariant-loop-i : goal.invariant-loop-i
invariant-loop-i l = record {
  index : IsIndex l.index (take l.i l.entries);
  left : hash_map_len l.fn.index + spare l.fn.index ≤ l.i + spare l.index;
  room : hash_map_len l.fn.index + spare l.fn.index ≤ hash_map_len l.index + spare l.index;
}
