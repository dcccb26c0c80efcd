use Rattle.std.proofs.Common.{refl}
use Rattle.abr_record.specs.Settling.{record_after}
use Rattle.store_model.proofs.examples.examples_of_boots.Goals as goal

pub returns-clause-seven : goal.returns-clause-seven
unfolding record_after
returns-clause-seven c = refl

pub returns-clause-tries : goal.returns-clause-tries
unfolding record_after
returns-clause-tries c = refl

pub returns-clause-eighth : goal.returns-clause-eighth
unfolding record_after
returns-clause-eighth c a b = refl

pub returns-clause-back : goal.returns-clause-back
unfolding record_after
returns-clause-back c a b = refl

pub returns-clause-pending : goal.returns-clause-pending
unfolding record_after
returns-clause-pending c a b = refl

pub returns-clause-kept : goal.returns-clause-kept
unfolding record_after
returns-clause-kept c a b = refl

pub returns-clause-lost : goal.returns-clause-lost
unfolding record_after
returns-clause-lost c a b = refl

pub returns-clause-stays : goal.returns-clause-stays
unfolding record_after
returns-clause-stays c a b = refl

pub returns-clause-goes : goal.returns-clause-goes
unfolding record_after
returns-clause-goes c a b = refl

pub returns-clause-boots : goal.returns-clause-boots
unfolding record_after
returns-clause-boots c a b = refl

pub returns-clause-once : goal.returns-clause-once
unfolding record_after
returns-clause-once c a b = refl
