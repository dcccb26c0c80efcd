use Rattle.plain_ledger.proofs.Ledgers.{ready}
use Rattle.plain_ledger.proofs.Activation.{activated, runs}
use Rattle.plain_ledger.proofs.Turns.{not_recovery}
use Rattle.plain_ledger.proofs.ledger.Ledger.activate.Goals as goal

pub activate-requires-clause-ready : goal.activate-requires-clause-ready
activate-requires-clause-ready c = ready c.self.invariant

pub activate-requires-clause-running : goal.activate-requires-clause-running
activate-requires-clause-running c = not_recovery _ (runs c.self.view_is c.self.invariant c.requires.stage)

pub invariant_of-self-2 : goal.invariant_of-self-2
invariant_of-self-2 c = (activated c.self.view_is c.self.invariant c.make_room.ensures.events c.in_ok-make_room.ensures.ok c.note.ensures c.in_ok-reply.ensures.due c.in_ok-reply.ensures.seen c.in_ok-reply.ensures.settled).holds

pub returns-clause-ok : goal.returns-clause-ok
returns-clause-ok c = (_, (activated c.self.view_is c.self.invariant c.make_room.ensures.events c.in_ok-make_room.ensures.ok c.note.ensures c.in_ok-reply.ensures.due c.in_ok-reply.ensures.seen c.in_ok-reply.ensures.settled).told)
