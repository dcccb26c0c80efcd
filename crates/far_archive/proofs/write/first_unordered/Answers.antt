use Rattle.std.proofs.Common.{ℕ, get_or, List, ap, sym, ◌∙◌, arith}
use Rattle.std.specs.Ordering.{nat_cmp}
use Rattle.std.specs.Cmp.Lexicographic.{slice_cmp}
use Rattle.far_archive.proofs.Decided.{Decides-is_lt}
use Rattle.far_archive.proofs.Lists.{ascends_on}
use Rattle.far_archive.proofs.write.first_unordered.Goals as goal

pub loop-k-preserved : goal.loop-k-preserved
loop-k-preserved c =
    let less = (Decides-is_lt c.cmp.result).0 (sym c.is_lt.ensures ∙ c.if-not-is_lt.false) in
    let named = ap (λ (l : List ℕ). slice_cmp nat_cmp l (get_or c.args.entries.now c.loop-k.k c.index-entries-k-in-loop-k.result).name) (sym c.as_slice-before.ensures.text)
    ∙ ap (λ (l : List ℕ). slice_cmp nat_cmp c.as_slice-before.result.now l) (sym c.as_slice-name.ensures.text) in
    ascends_on c.args.entries.now c.loop-k.k c.index-entries-k.result c.index-entries-k-in-loop-k.result (omega arith) (omega arith) (named ∙ sym c.cmp.ensures ∙ less) c.loop-k.invariant
