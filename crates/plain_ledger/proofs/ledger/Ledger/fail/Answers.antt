use Rattle.std.proofs.Common.{refl, arith}
use Rattle.plain_ledger.proofs.Ledgers.{ready}
use Rattle.plain_ledger.proofs.Looks.{failed, held_ticket}
use Rattle.plain_ledger.proofs.ledger.Ledger.fail.Goals as goal

pub end_ticket-requires : goal.end_ticket-requires
end_ticket-requires c = ready c.self.invariant

pub note-requires : goal.note-requires
note-requires c = omega (arith, held_ticket _ _ c.self.view_is c.self.invariant c.requires)

pub invariant_of-self : goal.invariant_of-self
invariant_of-self c = (failed c.self.view_is c.self.invariant refl c.note.ensures c.requires c.end_ticket.ensures).holds

pub returns : goal.returns
returns c = (failed c.self.view_is c.self.invariant refl c.note.ensures c.requires c.end_ticket.ensures).told
