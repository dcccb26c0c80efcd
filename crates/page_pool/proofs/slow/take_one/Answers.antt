use Rattle.std.proofs.Common.{◌≡◌, ℕ, List, [], ◌∷◌, ◌++◌, ap, subst, ◌∙◌, option_to_list, Option}
use Rattle.page_pool.specs.FreeList.{IsFreeList}
use Rattle.page_pool.proofs.FlagLemmas.{list_take}
use Rattle.page_pool.proofs.slow.take_one.Goals as goal

pub returns-clause-list : goal.returns-clause-list
returns-clause-list c =
    let last : c.args.free.now.items ≡ c.pop.new.self.items ++ c.unwrap-page.result ∷ [] =
    c.pop.ensures.items ∙ ap (λ (o : Option ℕ). c.pop.new.self.items ++ option_to_list o) c.unwrap-page.ensures in
    (list_take c.pop.new.self.items c.unwrap-page.result c.args.taken.now (subst (λ (l : List ℕ). IsFreeList l c.args.taken.now) last c.requires.list)).1
