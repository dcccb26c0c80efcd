use Rattle.plain_ledger.proofs.Ledgers.{ready}
use Rattle.plain_ledger.proofs.Looks.{closed}
use Rattle.plain_ledger.proofs.ledger.Ledger.close.Goals as goal

pub close_dir-closed-requires : goal.close_dir-closed-requires
close_dir-closed-requires c = ready c.self.invariant

pub invariant_of-self-2 : goal.invariant_of-self-2
invariant_of-self-2 c = (closed c.self.view_is c.self.invariant c.room_to_close.ensures.events c.in_ok-room_to_close.ensures.ok c.note.ensures c.close_dir-closed.ensures.was_open c.close_dir-closed.ensures.settled).holds

pub returns-clause-ok : goal.returns-clause-ok
returns-clause-ok c = (closed c.self.view_is c.self.invariant c.room_to_close.ensures.events c.in_ok-room_to_close.ensures.ok c.note.ensures c.close_dir-closed.ensures.was_open c.close_dir-closed.ensures.settled).told
