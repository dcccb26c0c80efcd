use Rattle.store_model.proofs.Calls.{held_by-Rests}
use Rattle.store_model.proofs.CallsRest.{held_after_read, held_after_check, held_after_collect, held_after_retain, held_after_copy, held_after_commit, held_after_reject}
use Rattle.store_model.proofs.call_laws.other_calls_keep_what_is_held.Goals as goal

pub returns-clause-read : goal.returns-clause-read
returns-clause-read c = held_after_read

pub returns-clause-check : goal.returns-clause-check
returns-clause-check c = held_after_check

pub returns-clause-collect : goal.returns-clause-collect
returns-clause-collect c = held_after_collect

pub returns-clause-retain : goal.returns-clause-retain
returns-clause-retain c = held_after_retain

pub returns-clause-copy : goal.returns-clause-copy
returns-clause-copy c = held_after_copy

pub returns-clause-commit : goal.returns-clause-commit
returns-clause-commit c = held_after_commit

pub returns-clause-reject : goal.returns-clause-reject
returns-clause-reject c = held_after_reject

pub returns-clause-pause : goal.returns-clause-pause
returns-clause-pause c = held_by-Rests
