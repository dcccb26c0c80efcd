use Rattle.std.proofs.Common.{refl, not}
use Rattle.package_book.specs.Unprotected.{is_named}
use Rattle.package_book.proofs.NameLaws.{unprotected_so}
use Rattle.store_model.specs.State.{stock_roots, protected_in}
use Rattle.store_model.proofs.LanesLasting.{left_len}
use Rattle.store_model.proofs.lane_laws.collections_remove_the_rest.Goals as goal

pub returns-clause-rest : goal.returns-clause-rest
returns-clause-rest c s root = unprotected_so (stock_roots s.stock) (protected_in s) s.books root

pub returns-clause-order : goal.returns-clause-order
returns-clause-order c s = (λ root. not (is_named (protected_in s) s.books root), refl)

pub returns-clause-gone : goal.returns-clause-gone
returns-clause-gone c s number e roots root act broke = rw (broke, act) (left_len s.stock roots root)
