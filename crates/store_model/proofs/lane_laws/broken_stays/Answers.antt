use Rattle.store_model.proofs.LanesLasting.{stays_noted, noted_broke}
use Rattle.store_model.proofs.lane_laws.broken_stays.Goals as goal

pub returns-clause-history : goal.returns-clause-history
returns-clause-history c = stays_noted

pub returns-clause-broke : goal.returns-clause-broke
returns-clause-broke c = noted_broke
