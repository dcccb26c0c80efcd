use Rattle.std.proofs.Common.{◌≡◌, ◌+◌, ◌≤◌, length, vec_capacity}
use Rattle.std.specs.HashMap.{hash_map_len, spare}
use Rattle.image_layout.specs.declared.geometry.Geometry.{Geometry}
use Rattle.node_table.specs.Spelling.{Lists}
use Rattle.node_table.specs.Steps.{AreSheets, IsIndex, Flags, row_from, link_from}
use Rattle.node_table.proofs.admit.judge.Given as goal

abbrev pub invariant-loop-i : goal.invariant-loop-i
invariant-loop-i l = record {
  listed : (g : Geometry) → AreSheets g l.rows l.links → Lists g (row_from l.rows) (link_from l.links) l.entries.items;
  size : length l.entries.items ≡ l.i;
  flags : Flags l.taken l.entries.items;
  index : IsIndex l.index l.entries.items;
  left : length l.rows ≤ l.i + spare l.index;
  room : length l.rows ≤ hash_map_len l.index + spare l.index;
  capacity : vec_capacity l.entries ≡ vec_capacity l.fn.entries;
}
