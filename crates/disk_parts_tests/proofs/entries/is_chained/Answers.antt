use Rattle.std.proofs.Common.{◌≡◌, ℕ, List, get_or, Contains, sym, ◌∙◌, ap, subst, inl, inr, arith}
use Rattle.std.proofs.lemmas.Bool.{cases_eq}
use Rattle.std.proofs.lemmas.List.{get_or_default}
use Rattle.node_table.specs.declared.entry.Entry.{Entry}
use Rattle.disk_parts_tests.proofs.entries.is_chained.Goals as goal

pub loop-entry-preserved : goal.loop-entry-preserved
loop-entry-preserved c = λ k d lt has.
    let entries = c.args.entries.now in
    let i = c.loop-entry.entry-index in
    let entry = c.entry-item.result in
    elim (cases_eq k i) [
      | inl e ↦
          let same : get_or entries k d ≡ entry = ap (λ (n : ℕ). get_or entries n d) e ∙ get_or_default entries i d entry c.loop-entry-test.true ∙ sym c.entry-item.is in
          c.has_page.ensures c.if-has_page.false (subst (λ (l : List ℕ). Contains l c.args.page) (ap (λ (x : Entry). x.pages) same ∙ sym c.as_slice.ensures.list) has)
      | inr ne ↦ c.loop-entry.invariant k d (omega (arith, ne, lt)) has
    ]

pub returns : goal.returns
returns c = λ _ chained.
    c.loop-entry.invariant chained.0 chained.1 (omega (arith, chained.2, c.loop-entry-test.false)) (subst (λ (x : Entry). Contains x.pages c.args.page) (sym chained.3) chained.4)
