use Rattle.std.proofs.Common.{◌≡◌, ◌≤◌, ◌++◌, vec_len}
use Rattle.std.specs.Option.{option_map}
use Rattle.pkg_tool.proofs.input.read_all.Given as goal

abbrev pub invariant-loop : goal.invariant-loop
invariant-loop g l = record {
  so_far : g.S.Source.left l.fn.source ≡ option_map (λ rest. l.bytes.items ++ rest) (g.S.Source.left l.source);
  within : vec_len l.bytes ≤ l.fn.limit;
  grows : l.counter ≤ vec_len l.bytes;
  faults : g.S.Source.faults l.fn.source ≤ g.S.Source.faults l.source;
}
