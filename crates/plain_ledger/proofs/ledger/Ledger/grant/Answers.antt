use Rattle.plain_ledger.proofs.Steps.{free, granted}
use Rattle.plain_ledger.proofs.ledger.Ledger.grant.Goals as goal

pub grant-requires : goal.grant-requires
grant-requires c = free _ _ _ c.self.view_is c.requires

pub invariant_of-self-2 : goal.invariant_of-self-2
invariant_of-self-2 c = (granted c.self.view_is c.self.invariant c.make_room.ensures.events c.in_ok-make_room.ensures.ok c.note.ensures c.requires (c.in_ok-grant.ensures.ok 0 0)).holds

pub returns-clause-ok : goal.returns-clause-ok
returns-clause-ok c = (granted c.self.view_is c.self.invariant c.make_room.ensures.events c.in_ok-make_room.ensures.ok c.note.ensures c.requires (c.in_ok-grant.ensures.ok 0 0)).told
