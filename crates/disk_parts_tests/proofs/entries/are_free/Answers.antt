use Rattle.std.proofs.Common.{ℕ, get_or, ◌∙◌, ap, subst, inl, inr, arith}
use Rattle.std.proofs.lemmas.Bool.{cases_eq}
use Rattle.std.proofs.lemmas.List.{get_or_default}
use Rattle.node_table.specs.Entries.{IsChained}
use Rattle.disk_parts_tests.proofs.entries.are_free.Goals as goal

pub loop-page-preserved : goal.loop-page-preserved
loop-page-preserved c = λ k d lt chained.
    let pages = c.args.pages.now in
    let i = c.loop-page.page-index in
    elim (cases_eq k i) [
      | inl e ↦ c.is_chained.ensures c.if-is_chained.false (subst (IsChained c.args.entries.now) (ap (λ (n : ℕ). get_or pages n d) e ∙ get_or_default pages i d 0 c.loop-page-test.true) chained)
      | inr ne ↦ c.loop-page.invariant k d (omega (arith, ne, lt)) chained
    ]

pub returns : goal.returns
returns c = λ _ k d lt. c.loop-page.invariant k d (omega (arith, lt, c.loop-page-test.false))
