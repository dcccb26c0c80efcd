use Rattle.store_model.proofs.SameSteps.{same_due, same_step, mirrors_back}
use Rattle.store_model.proofs.laws.books_are_looked_up.Goals as goal

pub returns-clause-due : goal.returns-clause-due
returns-clause-due c = same_due

pub returns-clause-after : goal.returns-clause-after
returns-clause-after c = same_step

pub returns-clause-back : goal.returns-clause-back
returns-clause-back c = mirrors_back
