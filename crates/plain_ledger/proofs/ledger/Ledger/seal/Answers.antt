use Rattle.plain_ledger.proofs.Steps.{sealed}
use Rattle.plain_ledger.proofs.ledger.Ledger.seal.Goals as goal

pub invariant_of-self-2 : goal.invariant_of-self-2
invariant_of-self-2 c = (sealed c.self.view_is c.self.invariant c.make_room.ensures.events c.in_ok-make_room.ensures.ok c.note.ensures c.requires c.seal.ensures).holds

pub returns-clause-ok : goal.returns-clause-ok
returns-clause-ok c = (sealed c.self.view_is c.self.invariant c.make_room.ensures.events c.in_ok-make_room.ensures.ok c.note.ensures c.requires c.seal.ensures).told
