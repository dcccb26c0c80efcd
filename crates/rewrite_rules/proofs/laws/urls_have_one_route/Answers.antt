use Rattle.rewrite_rules.proofs.Routes.{one_route}
use Rattle.rewrite_rules.proofs.laws.urls_have_one_route.Goals as goal

pub returns : goal.returns
returns c = one_route
