use Rattle.std.proofs.Common.{[], ap, ◌∙◌}
use Rattle.std.proofs.lemmas.List.{append-nil}
use Rattle.package_indexes.specs.Sets.{each_once}
use Rattle.package_indexes.proofs.Once.{again_within, next_last, same_roots}
use Rattle.package_indexes.proofs.laws.roots_stand_once.Goals as goal

pub returns-clause-same : goal.returns-clause-same
returns-clause-same c = same_roots

pub returns-clause-next : goal.returns-clause-next
returns-clause-next c = next_last

pub returns-clause-again : goal.returns-clause-again
returns-clause-again c = λ roots root has. again_within roots root [] has ∙ ap each_once (append-nil roots)
