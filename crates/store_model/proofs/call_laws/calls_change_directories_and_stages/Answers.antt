use Rattle.store_model.proofs.CallsHeld.{opened, closed, staged, sealed, activated, left_stage}
use Rattle.store_model.proofs.call_laws.calls_change_directories_and_stages.Goals as goal

pub returns-clause-open_path : goal.returns-clause-open_path
returns-clause-open_path c = opened

pub returns-clause-close : goal.returns-clause-close
returns-clause-close c = closed

pub returns-clause-stage : goal.returns-clause-stage
returns-clause-stage c = staged

pub returns-clause-seal : goal.returns-clause-seal
returns-clause-seal c = sealed

pub returns-clause-activate : goal.returns-clause-activate
returns-clause-activate c = activated

pub returns-clause-leave_stage : goal.returns-clause-leave_stage
returns-clause-leave_stage c = left_stage
