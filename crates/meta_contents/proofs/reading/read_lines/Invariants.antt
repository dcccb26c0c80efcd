use Rattle.std.proofs.Common.{◌≡◌, ◌+◌, [], length}
use Rattle.pkg_names.specs.Text.{lines_of}
use Rattle.meta_contents.specs.Contents.{reading, paths}
use Rattle.meta_contents.proofs.Law.{with_front}
use Rattle.meta_contents.proofs.reading.read_lines.Given as goal

abbrev pub invariant-loop-n : goal.invariant-loop-n
invariant-loop-n l = record {
  count : length l.contents + 1 ≡ l.n;
  left : with_front l.contents (reading (paths l.contents) l.n (lines_of l.rest)) ≡ reading [] 1 (lines_of l.text);
}
