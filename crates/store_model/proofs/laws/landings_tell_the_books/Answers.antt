use Rattle.store_model.proofs.Landing.{lands, known_then}
use Rattle.store_model.proofs.laws.landings_tell_the_books.Goals as goal

pub returns-clause-due : goal.returns-clause-due
returns-clause-due c = lands

pub returns-clause-known : goal.returns-clause-known
returns-clause-known c = known_then
