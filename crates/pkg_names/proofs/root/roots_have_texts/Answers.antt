use Rattle.pkg_names.proofs.Roots.{root_eq-Decides}
use Rattle.pkg_names.proofs.RootTexts.{root_in_spells, root_in_text, root_in-IsSome}
use Rattle.pkg_names.proofs.root.roots_have_texts.Goals as goal

pub returns-clause-text : goal.returns-clause-text
returns-clause-text c = λ text root. (root_in_spells text root, λ is. root_in_text text root is.0 is.1)

pub returns-clause-some : goal.returns-clause-some
returns-clause-some c = root_in-IsSome

pub returns-clause-same : goal.returns-clause-same
returns-clause-same c = root_eq-Decides
