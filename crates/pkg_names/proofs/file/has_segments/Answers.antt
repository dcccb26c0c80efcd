use Rattle.std.proofs.Common.{rules, ◌==◌}
use borrow.Author.Tests.{tests}
use Rattle.std.proofs.lemmas.Iterator.{cases_from_all}
use Rattle.std.proofs.lemmas.Iterator.Splits.{YieldsList-from_slice_split}
use Rattle.pkg_names.specs.FileText.{IsSegment, segments}
use Rattle.pkg_names.proofs.FileParts.{decided}
use Rattle.pkg_names.proofs.file.has_segments.Goals as goal

pub returns : goal.returns
returns c =
    decided IsSegment (segments c.args.text.now) c.all.result
    (cases_from_all _ _ _ IsSegment (λ p. IsSegment p → ⊥) c.all.ensures.ran (YieldsList-from_slice_split _ (λ b. b == 47) c.args.text.now c.split.ensures.rest c.split.ensures.done c.split.ensures.closure (λ x b q k. search (rules, tests))) (λ x q k. search (rules, tests)) (λ x q k. search (rules, tests)))
