use Rattle.fetch_queue.proofs.Marks.{fresh, stays, becomes, others, gone, gone_others}
use Rattle.fetch_queue.proofs.laws.first_marks_stay.Goals as goal

pub returns-clause-fresh : goal.returns-clause-fresh
returns-clause-fresh c = fresh

pub returns-clause-stays : goal.returns-clause-stays
returns-clause-stays c = stays

pub returns-clause-marked : goal.returns-clause-marked
returns-clause-marked c = becomes

pub returns-clause-others : goal.returns-clause-others
returns-clause-others c = others

pub returns-clause-gone : goal.returns-clause-gone
returns-clause-gone c = gone

pub returns-clause-gone_others : goal.returns-clause-gone_others
returns-clause-gone_others c = gone_others
