use Rattle.abr_record.proofs.SettlingLemmas.{one_try}
use Rattle.abr_record.proofs.laws.boots_take_tries.Goals as goal

pub returns-clause-one : goal.returns-clause-one
returns-clause-one c = one_try
