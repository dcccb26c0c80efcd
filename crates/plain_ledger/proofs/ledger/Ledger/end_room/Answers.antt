use Rattle.std.proofs.Common.{refl, arith}
use Rattle.plain_ledger.proofs.Steps.{room_ended, held_claim}
use Rattle.plain_ledger.proofs.ledger.Ledger.end_room.Goals as goal

pub note-requires : goal.note-requires
note-requires c = omega (arith, held_claim _ _ c.self.view_is c.self.invariant c.requires.0)

pub invariant_of-self : goal.invariant_of-self
invariant_of-self c = (room_ended c.self.view_is c.self.invariant refl c.note.ensures c.requires c.end_claim.ensures).holds

pub returns : goal.returns
returns c = (room_ended c.self.view_is c.self.invariant refl c.note.ensures c.requires c.end_claim.ensures).told
