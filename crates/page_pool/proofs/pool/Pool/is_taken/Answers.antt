use Rattle.std.proofs.Common.{◌≡◌, ℕ, Bool, false, List, get_or, sym, subst, ◌∙◌, ap, arith, le-ltb}
use Rattle.std.proofs.lemmas.Bool.{true≢false}
use Rattle.page_pool.specs.Flags.{IsTaken}
use Rattle.page_pool.specs.Words.{flag_in}
use Rattle.page_pool.proofs.WordLemmas.{flag_at, taken_below}
use Rattle.page_pool.proofs.pool.Pool.is_taken.Goals as goal

pub returns-then-page-self : goal.returns-then-page-self
returns-then-page-self c =
    let is : get_or c.args.self.now c.args.page false ≡ c.flag_of.result =
    ap (λ (l : List Bool). get_or l c.args.page false) (sym c.self.view_is) ∙ flag_at c.self.inside.pages c.self.inside.words.items c.args.page false c.if-page-self.true
    ∙ sym (c.flag_of.ensures ∙ ap (λ (l : List ℕ). flag_in l c.args.page) c.deref.ensures.value) in
    (λ yes. is ∙ yes, λ taken. sym is ∙ taken)

pub returns-else-page-self : goal.returns-else-page-self
returns-else-page-self c =
    (λ yes. absurd (true≢false (sym yes ∙ le-ltb c.args.page c.self.inside.pages c.if-page-self.false)), λ taken. absurd (omega (arith, c.if-page-self.false, taken_below c.self.inside.pages c.self.inside.words.items c.args.page (subst (λ (l : List Bool). IsTaken l c.args.page) (sym c.self.view_is) taken))))
