use Rattle.std.proofs.Common.{◌≡◌, drop}
use Rattle.meta_contents.specs.Contents.{pairs}
use Rattle.package_book.specs.Book.{outer_at}
use Rattle.package_book.proofs.book.root_at.Given as goal

abbrev pub invariant-loop-line : goal.invariant-loop-line
invariant-loop-line l = outer_at l.path (pairs (drop l.line-index l.lines)) ≡ outer_at l.path (pairs l.lines)
