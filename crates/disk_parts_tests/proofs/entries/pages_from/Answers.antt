use Rattle.std.proofs.Common.{◌≡◌, ℕ, ◌+◌, ◌-◌, List, ◌∷◌, [], ◌++◌, sym, ◌∙◌, ap, arith}
use Rattle.std.specs.List.{range_with_len}
use Rattle.disk_parts_tests.proofs.Rows.{row_more}
use Rattle.disk_parts_tests.proofs.entries.pages_from.Goals as goal

pub loop-page-preserved : goal.loop-page-preserved
loop-page-preserved c =
    let first = c.args.first in
    let page = c.loop-page.page in
    let n = page - first in
    let from = c.loop-page.auto.page in
    let at : page ≡ first + n = omega (arith, from) in
    let up : page + 1 - first ≡ n + 1 = omega (arith, from) in
    c.in_ok-push.ensures.items ∙ ap (λ (l : List ℕ). l ++ page ∷ []) c.loop-page.invariant ∙ ap (λ (p : ℕ). range_with_len first n ++ p ∷ []) at ∙ sym (row_more first n) ∙ ap (range_with_len first) (sym up)
