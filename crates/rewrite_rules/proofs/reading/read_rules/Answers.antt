use Rattle.rewrite_rules.proofs.Holding.{read_holds}
use Rattle.rewrite_rules.proofs.reading.read_rules.Goals as goal

pub returns-clause-holds : goal.returns-clause-holds
returns-clause-holds c = read_holds c.args.bytes.now c.read_whole.result c.read_whole.ensures.exact
