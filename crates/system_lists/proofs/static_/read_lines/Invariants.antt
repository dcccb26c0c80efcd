use Rattle.std.proofs.Common.{◌≡◌, [], length, map}
use Rattle.pkg_names.specs.Text.{lines_of}
use Rattle.system_lists.specs.Entries.{listed}
use Rattle.system_lists.specs.Lists.{has_path_of}
use Rattle.system_lists.specs.Static.{pinned_line}
use Rattle.system_lists.proofs.static_.read_lines.Given as goal

abbrev pub invariant-loop-n : goal.invariant-loop-n
invariant-loop-n l = record {
  count : length l.list.items ≡ l.n;
  left : listed has_path_of l.list.items (map pinned_line (lines_of l.rest)) ≡ listed has_path_of [] (map pinned_line (lines_of l.text));
}
