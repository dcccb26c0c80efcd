use Rattle.store_model.proofs.LanesSpared.{spares_arriving, spares_open, spares_retained, spares_path}
use Rattle.store_model.proofs.lane_laws.collections_spare_what_is_held.Goals as goal

pub returns-clause-arriving : goal.returns-clause-arriving
returns-clause-arriving c = spares_arriving

pub returns-clause-dir : goal.returns-clause-dir
returns-clause-dir c = spares_open

pub returns-clause-retained : goal.returns-clause-retained
returns-clause-retained c = spares_retained

pub returns-clause-path : goal.returns-clause-path
returns-clause-path c = spares_path
