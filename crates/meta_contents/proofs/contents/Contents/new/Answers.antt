use Rattle.std.proofs.Common.{subst, sym, List}
use Rattle.meta_contents.specs.Contents.{IsContents, pairs}
use Rattle.meta_contents.specs.declared.contents.ContentsLine.{ContentsLine}
use Rattle.meta_contents.proofs.Pairs.{none_are}
use Rattle.meta_contents.proofs.contents.Contents.new.Goals as goal

pub invariant_of-result : goal.invariant_of-result
invariant_of-result c = subst (λ (l : List ContentsLine). IsContents (pairs l)) (sym c.new.ensures) none_are
