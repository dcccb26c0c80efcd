use Rattle.rewrite_rules.proofs.Holding.{holds, first_fault}
use Rattle.rewrite_rules.proofs.laws.texts_hold_what_is_read.Goals as goal

pub returns-clause-rules : goal.returns-clause-rules
returns-clause-rules c = holds

pub returns-clause-fault : goal.returns-clause-fault
returns-clause-fault c = first_fault
