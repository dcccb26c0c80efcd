use Rattle.resolver.proofs.Runs.{asks_once, grants_end, ends_grants, ends_as}
use Rattle.resolver.proofs.laws.runs_resolve_one_package.Goals as goal

pub returns : goal.returns
returns c = record { begin = asks_once; ended = grants_end; once = ends_grants; last = ends_as }
