use Rattle.plain_ledger.proofs.Ledgers.{numbered, fresh_dir}
use Rattle.plain_ledger.proofs.Steps.{path_opened}
use Rattle.plain_ledger.proofs.ledger.Ledger.open_path.Goals as goal

pub open_path-requires : goal.open_path-requires
open_path-requires c = fresh_dir c.self.invariant c.next_number-number.ensures

pub invariant_of-self-2 : goal.invariant_of-self-2
invariant_of-self-2 c = (path_opened c.self.view_is c.self.invariant c.make_room.ensures.events c.in_ok-make_room.ensures.ok c.note.ensures c.requires c.next_number-number.ensures c.in_ok-open_path.ensures.ok).holds

pub returns-clause-ok : goal.returns-clause-ok
returns-clause-ok c = (numbered c.self.view_is c.next_number-number.ensures, (path_opened c.self.view_is c.self.invariant c.make_room.ensures.events c.in_ok-make_room.ensures.ok c.note.ensures c.requires c.next_number-number.ensures c.in_ok-open_path.ensures.ok).told)
