use Rattle.plain_ledger.proofs.Ledgers.{ready}
use Rattle.plain_ledger.proofs.Looks.{retained}
use Rattle.plain_ledger.proofs.ledger.Ledger.retain.Goals as goal

pub keep_only-requires-clause-ready : goal.keep_only-requires-clause-ready
keep_only-requires-clause-ready c = ready c.self.invariant

pub invariant_of-self-2 : goal.invariant_of-self-2
invariant_of-self-2 c = (retained c.self.view_is c.self.invariant c.make_room.ensures.events c.in_ok-make_room.ensures.ok c.note.ensures c.in_ok-told.ensures.same c.requires.free c.in_ok-seen.ensures.seen c.in_ok-seen.ensures.ok).holds

pub returns-clause-ok : goal.returns-clause-ok
returns-clause-ok c = (_, (retained c.self.view_is c.self.invariant c.make_room.ensures.events c.in_ok-make_room.ensures.ok c.note.ensures c.in_ok-told.ensures.same c.requires.free c.in_ok-seen.ensures.seen c.in_ok-seen.ensures.ok).told)
