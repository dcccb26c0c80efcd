use Rattle.std.proofs.Common.{refl, arith}
use Rattle.plain_ledger.proofs.Steps.{missed, held_claim}
use Rattle.plain_ledger.proofs.ledger.Ledger.miss.Goals as goal

pub note-requires : goal.note-requires
note-requires c = omega (arith, held_claim _ _ c.self.view_is c.self.invariant c.requires)

pub invariant_of-self : goal.invariant_of-self
invariant_of-self c = (missed c.self.view_is c.self.invariant refl c.note.ensures c.requires c.end_missed.ensures).holds

pub returns : goal.returns
returns c = (missed c.self.view_is c.self.invariant refl c.note.ensures c.requires c.end_missed.ensures).told
