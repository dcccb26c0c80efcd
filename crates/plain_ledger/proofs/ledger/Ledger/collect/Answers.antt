use Rattle.plain_ledger.proofs.Steps.{collected}
use Rattle.plain_ledger.proofs.ledger.Ledger.collect.Goals as goal

pub invariant_of-self-2 : goal.invariant_of-self-2
invariant_of-self-2 c = (collected c.self.view_is c.self.invariant c.make_room.ensures.events c.in_ok-make_room.ensures.ok c.note.ensures c.requires c.collect.ensures).holds

pub returns-clause-ok : goal.returns-clause-ok
returns-clause-ok c = (collected c.self.view_is c.self.invariant c.make_room.ensures.events c.in_ok-make_room.ensures.ok c.note.ensures c.requires c.collect.ensures).told
