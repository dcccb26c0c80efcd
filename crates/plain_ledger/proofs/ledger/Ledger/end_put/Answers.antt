use Rattle.std.proofs.Common.{refl, arith}
use Rattle.plain_ledger.proofs.Steps.{put_ended, held_put}
use Rattle.plain_ledger.proofs.ledger.Ledger.end_put.Goals as goal

pub note-requires : goal.note-requires
note-requires c = omega (arith, held_put _ _ _ c.self.view_is c.self.invariant c.requires)

pub invariant_of-self : goal.invariant_of-self
invariant_of-self c = (put_ended c.self.view_is c.self.invariant refl c.note.ensures c.requires c.end_claim.ensures).holds

pub returns : goal.returns
returns c = (put_ended c.self.view_is c.self.invariant refl c.note.ensures c.requires c.end_claim.ensures).told
