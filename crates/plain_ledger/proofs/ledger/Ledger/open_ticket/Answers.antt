use Rattle.plain_ledger.proofs.Ledgers.{numbered, fresh_dir, ready}
use Rattle.plain_ledger.proofs.Looks.{opened, arrives}
use Rattle.plain_ledger.proofs.ledger.Ledger.open_ticket.Goals as goal

pub open_arrived-requires-clause-ready : goal.open_arrived-requires-clause-ready
open_arrived-requires-clause-ready c = ready c.self.invariant

pub open_arrived-requires-clause-fresh : goal.open_arrived-requires-clause-fresh
open_arrived-requires-clause-fresh c = fresh_dir c.self.invariant c.next_number-number.ensures

pub open_arrived-requires-clause-arrives : goal.open_arrived-requires-clause-arrives
open_arrived-requires-clause-arrives c = arrives _ _ _ c.self.view_is c.requires

pub invariant_of-self-2 : goal.invariant_of-self-2
invariant_of-self-2 c = (opened c.self.view_is c.self.invariant c.make_room.ensures.events c.in_ok-make_room.ensures.ok c.note.ensures c.requires c.next_number-number.ensures c.in_ok-open_arrived.ensures.ok).holds

pub returns-clause-ok : goal.returns-clause-ok
returns-clause-ok c = (numbered c.self.view_is c.next_number-number.ensures, (opened c.self.view_is c.self.invariant c.make_room.ensures.events c.in_ok-make_room.ensures.ok c.note.ensures c.requires c.next_number-number.ensures c.in_ok-open_arrived.ensures.ok).told)
