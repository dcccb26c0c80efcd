use Rattle.plain_desk.proofs.Own.{own_since, leaves_others}
use Rattle.plain_desk.proofs.lane.Lane.alone.Goals as goal

pub returns-clause-own : goal.returns-clause-own
returns-clause-own c = own_since c.args.self.now.number c.args.self.now.began c.args.self.now.store.now.history c.args.self.now.own

pub returns-clause-others : goal.returns-clause-others
returns-clause-others c = leaves_others c.args.self.now.number _ c.args.self.now.store.now.history
    (own_since c.args.self.now.number c.args.self.now.began c.args.self.now.store.now.history c.args.self.now.own)
