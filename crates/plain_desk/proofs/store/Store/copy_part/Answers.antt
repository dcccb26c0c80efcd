use Rattle.std.proofs.Common.{refl}
use Rattle.plain_desk.proofs.Stores.{file_there}
use Rattle.plain_desk.proofs.Filled.{held_phase}
use Rattle.plain_desk.proofs.Copies.{copied_event, copied_keeps, copied_store, copied_whole}
use Rattle.plain_desk.proofs.Own.{copy_apart, left_same, own_call}
use Rattle.plain_desk.proofs.store.Store.copy_part.Goals as goal

pub copy-requires-clause-stage : goal.copy-requires-clause-stage
copy-requires-clause-stage c = held_phase c.self.view_is c.self.invariant.holds c.requires

pub copy-requires-clause-there : goal.copy-requires-clause-there
copy-requires-clause-there c = file_there _ _ _ _ c.self.invariant.holds

pub invariant_of-self : goal.invariant_of-self
invariant_of-self c = copied_store c.args.lane c.args.image c.args.dir.number c.args.file.now c.copy.result c.self.invariant c.copy.ensures

pub returns-clause-event : goal.returns-clause-event
returns-clause-event c = λ tie. copied_event tie c.args.lane c.args.image c.args.dir.number c.args.file.now c.copy.result c.self.inside.ledger c.copy.new.ledger c.self.inside.drafts c.self.inside.images c.copy.new.images _ _ c.self.view_is c.self.invariant.holds c.self.invariant.unbroken c.copy.ensures

pub returns-clause-kept : goal.returns-clause-kept
returns-clause-kept c = copied_keeps c.args.lane c.args.image c.args.dir.number c.args.file.now c.copy.result c.self.inside.ledger c.copy.new.ledger c.self.inside.drafts c.self.inside.images c.copy.new.images _ c.self.view_is c.self.invariant.holds c.copy.ensures

pub returns-clause-whole : goal.returns-clause-whole
returns-clause-whole c = copied_whole c.args.lane c.args.image c.args.dir.number c.args.file.now c.copy.result c.self.inside.ledger c.copy.new.ledger c.self.inside.contents c.self.inside.drafts c.self.inside.images c.copy.new.images c.self.invariant c.copy.ensures

pub returns-clause-own : goal.returns-clause-own
returns-clause-own c = own_call c.args.lane c.self.inside.ledger c.self.view_is (left_same refl) (copy_apart c.copy.new.images c.args.lane c.self.inside.ledger c.copy.new.ledger c.args.image c.args.dir.number c.args.file.now c.copy.result c.self.view_is c.copy.ensures)
