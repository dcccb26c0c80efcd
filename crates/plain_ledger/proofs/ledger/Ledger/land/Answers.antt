use Rattle.std.proofs.Common.{refl, arith}
use Rattle.plain_ledger.proofs.Ledgers.{ready}
use Rattle.plain_ledger.proofs.Steps.{held_claim}
use Rattle.plain_ledger.proofs.Looks.{landed, not_there}
use Rattle.plain_ledger.proofs.ledger.Ledger.land.Goals as goal

pub store-requires-clause-ready : goal.store-requires-clause-ready
store-requires-clause-ready c = ready c.self.invariant

pub store-requires-clause-missing : goal.store-requires-clause-missing
store-requires-clause-missing c = not_there _ _ _ c.self.view_is c.self.invariant c.requires.due

pub note-requires : goal.note-requires
note-requires c = omega (arith, held_claim _ _ c.self.view_is c.self.invariant c.requires.due.0)

pub invariant_of-self-2 : goal.invariant_of-self-2
invariant_of-self-2 c = (landed c.self.view_is c.self.invariant refl c.note.ensures c.requires.due (record { read = c.requires.read; bytes = c.requires.bytes; looked = c.requires.seen }) c.in_ok-store.ensures.ok).holds

pub returns-clause-ok : goal.returns-clause-ok
returns-clause-ok c = (landed c.self.view_is c.self.invariant refl c.note.ensures c.requires.due (record { read = c.requires.read; bytes = c.requires.bytes; looked = c.requires.seen }) c.in_ok-store.ensures.ok).told
