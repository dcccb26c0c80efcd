use Rattle.abr_record.proofs.SettlingLemmas.{rests_from}
use Rattle.abr_record.proofs.laws.settling_is_unique.Goals as goal

pub returns-clause-stays : goal.returns-clause-stays
returns-clause-stays c = λ r s n settles le. rests_from r s.boots n settles.stays le
