use Rattle.std.proofs.Common.{ℕ, List, ◌⊎◌, ◌↔◌, Contains, sym, subst}
use Rattle.node_table.specs.Steps.{IsTaken}
use Rattle.node_table.proofs.admit.entry_in.Goals as goal

pub returns-clause-took : goal.returns-clause-took
returns-clause-took c = λ page. subst (λ (l : List ℕ). IsTaken c.walk.new.taken page ↔ (IsTaken c.args.taken.now page ⊎ Contains l page)) (sym c.make.ensures.list) (c.walk.ensures.took c.if-not-walk.false page)
