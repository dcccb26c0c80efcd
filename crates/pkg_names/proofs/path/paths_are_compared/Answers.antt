use Rattle.pkg_names.proofs.Roots.{path_eq-Decides}
use Rattle.pkg_names.proofs.path.paths_are_compared.Goals as goal

pub returns : goal.returns
returns c = path_eq-Decides
