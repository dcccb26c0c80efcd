use Rattle.plain_state.proofs.SettledLooks.{begins_learned}
use Rattle.plain_state.proofs.state.State.begin.Goals as goal

pub returns-clause-ok : goal.returns-clause-ok
returns-clause-ok c =
    begins_learned c.args.self.now c.learn_stored.new.self c.arrive.new.self c.args.number c.args.lane c.args.path.now c.args.root c.args.meta c.requires.ready c.requires.read
    c.in_ok-learn_stored.ensures.ok c.in_default.ensures.ok
