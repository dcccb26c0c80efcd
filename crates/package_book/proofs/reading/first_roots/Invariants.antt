use Rattle.std.proofs.Common.{◌≡◌, take}
use Rattle.meta_contents.specs.Contents.{pairs}
use Rattle.package_book.specs.Book.{outer_roots}
use Rattle.package_book.proofs.Lines.{HasRoots}
use Rattle.package_book.proofs.reading.first_roots.Given as goal

abbrev pub invariant-loop-line : goal.invariant-loop-line
invariant-loop-line l = record {
  list : l.roots.items ≡ outer_roots (pairs (take l.line-index l.lines));
  known : HasRoots l.seen l.roots.items;
}
