use Rattle.std.proofs.Common.{refl, arith}
use Rattle.plain_ledger.proofs.Steps.{left_stage, held_stage}
use Rattle.plain_ledger.proofs.ledger.Ledger.leave_stage.Goals as goal

pub note-requires : goal.note-requires
note-requires c = omega (arith, held_stage _ c.self.view_is c.self.invariant c.requires)

pub invariant_of-self : goal.invariant_of-self
invariant_of-self c = (left_stage c.self.view_is c.self.invariant refl c.note.ensures c.requires c.leave_stage.ensures).holds

pub returns : goal.returns
returns c = (left_stage c.self.view_is c.self.invariant refl c.note.ensures c.requires c.leave_stage.ensures).told
