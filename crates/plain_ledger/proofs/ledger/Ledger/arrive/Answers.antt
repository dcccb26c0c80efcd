use Rattle.plain_ledger.proofs.Ledgers.{numbered, fresh_ticket, ready}
use Rattle.plain_ledger.proofs.Looks.{begun}
use Rattle.plain_ledger.proofs.ledger.Ledger.arrive.Goals as goal

pub begin-requires-clause-ready : goal.begin-requires-clause-ready
begin-requires-clause-ready c = ready c.self.invariant

pub begin-requires-clause-fresh : goal.begin-requires-clause-fresh
begin-requires-clause-fresh c = fresh_ticket c.self.invariant c.next_number-number.ensures

pub invariant_of-self-2 : goal.invariant_of-self-2
invariant_of-self-2 c = (begun c.self.view_is c.self.invariant c.make_room.ensures.events c.in_ok-make_room.ensures.ok c.note.ensures c.requires.answer (record { read = c.requires.read; bytes = c.requires.bytes; looked = c.requires.seen }) c.next_number-number.ensures c.in_ok-begin.ensures.ok).holds

pub returns-clause-ok : goal.returns-clause-ok
returns-clause-ok c = (numbered c.self.view_is c.next_number-number.ensures, (begun c.self.view_is c.self.invariant c.make_room.ensures.events c.in_ok-make_room.ensures.ok c.note.ensures c.requires.answer (record { read = c.requires.read; bytes = c.requires.bytes; looked = c.requires.seen }) c.next_number-number.ensures c.in_ok-begin.ensures.ok).told)
