use Rattle.std.proofs.Common.{◌≡◌, take}
use Rattle.meta_contents.specs.Contents.{text_of, pairs}
use Rattle.meta_contents.proofs.contents.write_contents.Given as goal

abbrev pub invariant-loop-line : goal.invariant-loop-line
invariant-loop-line l = l.out.items ≡ text_of (pairs (take l.line-index l.line-items))
