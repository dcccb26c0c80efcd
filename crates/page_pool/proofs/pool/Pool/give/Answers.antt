use Rattle.std.proofs.Common.{◌≡◌, ℕ, Bool, false, List, All, get_or, set, take, sym, ap, subst, ◌∙◌}
use Rattle.std.proofs.lemmas.List.{take_more, take_all}
use Rattle.page_pool.specs.Flags.{IsTaken, IsFree, free_count, with_flags}
use Rattle.page_pool.proofs.FlagLemmas.{next_taken, with_flags-push, are_free, give_counted}
use Rattle.page_pool.proofs.pool.Pool.give.Goals as goal

pub give_one-requires : goal.give_one-requires
give_one-requires c =
    let i = c.loop-page.page-index in
    record {
      taken = subst (λ (l : List Bool). IsTaken l (get_or c.args.pages.now i 0)) (sym c.loop-page.invariant)
          (next_taken c.args.self.now c.args.pages.now i 0 c.loop-page-test.true c.requires.taken c.requires.apart);
    }

-- at the end all pages are given back
given : (c : goal.After-loop-page) → c.loop-page.self ≡ with_flags false c.args.pages.now c.args.self.now
given c =
    c.loop-page.invariant ∙ ap (λ (l : List ℕ). with_flags false l c.args.self.now) (take_all c.loop-page.page-index c.args.pages.now c.loop-page-test.false)

pub loop-page-preserved : goal.loop-page-preserved
loop-page-preserved c =
    let pages = c.args.pages.now in
    let i = c.loop-page.page-index in
    let first = c.args.self.now in
    let page = get_or pages i 0 in
    c.give_one.ensures.given ∙ ap (λ (l : List Bool). set l page false) c.loop-page.invariant ∙ sym (with_flags-push false (take i pages) page first)
    ∙ ap (λ (l : List ℕ). with_flags false l first) (sym (take_more pages i 0 c.loop-page-test.true))

pub returns-clause-are_free : goal.returns-clause-are_free
returns-clause-are_free c =
    subst (λ (l : List Bool). All (IsFree l) c.args.pages.now) (sym {A = List Bool} (given c)) (are_free c.args.pages.now c.args.self.now c.requires.taken)

pub returns-clause-count : goal.returns-clause-count
returns-clause-count c = ap free_count (given c) ∙ give_counted c.args.pages.now c.args.self.now c.requires.taken c.requires.apart
