use Rattle.system_lists.proofs.Law.{stands, only}
use Rattle.system_lists.proofs.static_.texts_stand_for_what_is_read.Goals as goal

pub returns : goal.returns
returns c = record { stands = stands; only = only }
