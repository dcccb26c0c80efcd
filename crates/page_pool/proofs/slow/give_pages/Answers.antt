use Rattle.std.proofs.Common.{◌≡◌, ℕ, Bool, false, List, All, get_or, set, take, sym, ap, subst, ◌∙◌}
use Rattle.std.proofs.lemmas.List.{take_more, take_all}
use Rattle.page_pool.specs.Flags.{IsTaken, IsFree, free_count, with_flags}
use Rattle.page_pool.proofs.FlagLemmas.{next_taken, with_flags-push, are_free, give_counted}
use Rattle.page_pool.proofs.slow.give_pages.Goals as goal

pub give_one-requires-clause-taken : goal.give_one-requires-clause-taken
give_one-requires-clause-taken c =
    let i = c.loop-page.page-index in
    subst (λ (l : List Bool). IsTaken l (get_or c.args.pages.now i 0)) (sym c.loop-page.invariant.given)
    (next_taken c.args.taken.now c.args.pages.now i 0 c.loop-page-test.true c.requires.taken c.requires.apart)

-- at the end all pages are given back
given : (c : goal.After-loop-page) → c.loop-page.taken ≡ with_flags false c.args.pages.now c.args.taken.now
given c =
    c.loop-page.invariant.given ∙ ap (λ (l : List ℕ). with_flags false l c.args.taken.now) (take_all c.loop-page.page-index c.args.pages.now c.loop-page-test.false)

pub loop-page-preserved : goal.loop-page-preserved
loop-page-preserved c =
    let pages = c.args.pages.now in
    let i = c.loop-page.page-index in
    let first = c.args.taken.now in
    let page = get_or pages i 0 in
    record {
      given = c.give_one.ensures.given ∙ ap (λ (l : List Bool). set l page false) c.loop-page.invariant.given ∙ sym (with_flags-push false (take i pages) page first)
          ∙ ap (λ (l : List ℕ). with_flags false l first) (sym (take_more pages i 0 c.loop-page-test.true));
      list = c.give_one.ensures.list;
      room = c.give_one.ensures.room ∙ c.loop-page.invariant.room;
    }

pub returns-clause-are_free : goal.returns-clause-are_free
returns-clause-are_free c =
    subst (λ (l : List Bool). All (IsFree l) c.args.pages.now) (sym {A = List Bool} (given c)) (are_free c.args.pages.now c.args.taken.now c.requires.taken)

pub returns-clause-count : goal.returns-clause-count
returns-clause-count c = ap free_count (given c) ∙ give_counted c.args.pages.now c.args.taken.now c.requires.taken c.requires.apart
