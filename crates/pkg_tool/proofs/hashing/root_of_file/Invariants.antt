use Rattle.std.proofs.Common.{◌≤◌}
use Rattle.pkg_merkle.specs.Hasher.{byte_count}
use Rattle.pkg_tool.specs.Hashing.{Fed}
use Rattle.pkg_tool.proofs.hashing.root_of_file.Given as goal

abbrev pub invariant-loop : goal.invariant-loop
invariant-loop g l = record {
  fed : Fed (g.S.Source.left l.fn.file) (g.S.Source.left l.file) l.hasher;
  grows : l.counter ≤ byte_count l.hasher;
  faults : g.S.Source.faults l.fn.file ≤ g.S.Source.faults l.file;
}
