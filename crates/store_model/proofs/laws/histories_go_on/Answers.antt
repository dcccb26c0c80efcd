use Rattle.store_model.proofs.Histories.{goes_on, front_is_legal}
use Rattle.store_model.proofs.laws.histories_go_on.Goals as goal

pub returns-clause-one_more : goal.returns-clause-one_more
returns-clause-one_more c = goes_on

pub returns-clause-front : goal.returns-clause-front
returns-clause-front c = front_is_legal
