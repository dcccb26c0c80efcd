use Rattle.package_url.proofs.Places.{behind_lent}
use Rattle.package_url.proofs.parts.behind.Goals as goal

pub returns : goal.returns
returns c = behind_lent c.args.front.now c.args.text.now c.strip_prefix.result c.strip_prefix.ensures.cases
