use Rattle.fetch_queue.proofs.Claims.{first, none, free, made, ended, others, room}
use Rattle.fetch_queue.proofs.laws.claims_come_and_go.Goals as goal

pub returns-clause-first : goal.returns-clause-first
returns-clause-first c = first

pub returns-clause-none : goal.returns-clause-none
returns-clause-none c = none

pub returns-clause-free : goal.returns-clause-free
returns-clause-free c = free

pub returns-clause-made : goal.returns-clause-made
returns-clause-made c = made

pub returns-clause-ended : goal.returns-clause-ended
returns-clause-ended c = ended

pub returns-clause-others : goal.returns-clause-others
returns-clause-others c = others

pub returns-clause-room : goal.returns-clause-room
returns-clause-room c = room
