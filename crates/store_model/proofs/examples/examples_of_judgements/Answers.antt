use Rattle.std.proofs.Common.{refl}
use Rattle.system_lists.specs.Entries.{listed}
use Rattle.store_model.proofs.examples.examples_of_judgements.Goals as goal

pub returns-clause-whole : goal.returns-clause-whole
unfolding listed
returns-clause-whole c system = refl
