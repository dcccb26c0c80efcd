use Rattle.std.proofs.Common.{◌≡◌, length, take}
use Rattle.node_table.specs.Entries.{without}
use Rattle.node_table.specs.Steps.{LaidOut}
use Rattle.node_table.proofs.layout.lay_out.Given as goal

abbrev pub invariant-loop-entry : goal.invariant-loop-entry
invariant-loop-entry l = record {
  count : l.at ≡ length (without l.gone (take l.entry-index l.entries));
  laid : LaidOut l.rows l.links (without l.gone (take l.entry-index l.entries));
}
