use Rattle.store_model.proofs.LanesOpened.{opened_whole, opened_dir, opened_active, opened_based, opened_others}
use Rattle.store_model.proofs.lane_laws.whole_packages_are_opened.Goals as goal

pub returns-clause-whole : goal.returns-clause-whole
returns-clause-whole c = opened_whole

pub returns-clause-dir : goal.returns-clause-dir
returns-clause-dir c = opened_dir

pub returns-clause-active : goal.returns-clause-active
returns-clause-active c = opened_active

pub returns-clause-base : goal.returns-clause-base
returns-clause-base c = opened_based

pub returns-clause-others : goal.returns-clause-others
returns-clause-others c = opened_others
