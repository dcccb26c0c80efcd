use Rattle.first_store.proofs.Hands.{boots_whole, two_roots}
use Rattle.first_store.proofs.Read.{book_is}
use Rattle.first_store.proofs.laws.the_start_is_whole.Goals as goal

pub returns-clause-book : goal.returns-clause-book
returns-clause-book c = book_is

pub returns-clause-apart : goal.returns-clause-apart
returns-clause-apart c = two_roots

pub returns-clause-whole : goal.returns-clause-whole
returns-clause-whole c = boots_whole
