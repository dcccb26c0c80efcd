use Rattle.std.proofs.Common.{refl}
use Rattle.package_book.specs.Names.{names, listed_roots}
use Rattle.store_model.proofs.examples.examples_of_collections.Goals as goal

pub returns-clause-opened : goal.returns-clause-opened
unfolding names listed_roots
returns-clause-opened c = refl

pub returns-clause-others : goal.returns-clause-others
unfolding names listed_roots
returns-clause-others c = refl

pub returns-clause-retained : goal.returns-clause-retained
unfolding names listed_roots
returns-clause-retained c = refl
