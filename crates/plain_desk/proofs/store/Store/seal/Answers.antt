use Rattle.std.proofs.Common.{refl}
use Rattle.store_model.specs.Replies.{IsSealed}
use Rattle.plain_desk.proofs.Stores.{answered, tells, rests}
use Rattle.plain_desk.proofs.Filled.{all_kept, held_phase, seal_keeps, seals}
use Rattle.plain_desk.proofs.Own.{apart, by_event, left_same, own_call}
use Rattle.plain_desk.proofs.store.Store.seal.Goals as goal
use Rattle.plain_desk.proofs.store.Store.seal.Goals.{in-Ok, in-Err}

pub seal-requires : goal.seal-requires
seal-requires c = held_phase c.self.view_is c.self.invariant.holds c.requires

pub invariant_of-self : goal.invariant_of-self
invariant_of-self c = answered c.args.lane (IsSealed c.args.sys.now) c.seal.result c.self.invariant c.seal.ensures.ok c.seal.ensures.err

pub returns-clause-event : goal.returns-clause-event
returns-clause-event c = λ tie. elim c.match-seal.branch [
  | in-Ok w ↦ rw w.result-is (seals _ _ _ _ (tells (IsSealed c.args.sys.now w.in-Ok.reply) c.self.view_is w.in-Ok.ensures.ok))
  | in-Err w ↦ rw w.result-is (rests c.self.view_is w.in-Err.ensures.err)
]

pub returns-clause-kept : goal.returns-clause-kept
returns-clause-kept c = elim c.match-seal.branch [
  | in-Ok w ↦ rw w.result-is (seal_keeps c.args.lane c.args.sys.now w.in-Ok.reply c.self.inside.ledger c.seal.new.ledger c.self.view_is w.in-Ok.ensures.sums)
  | in-Err w ↦ rw w.result-is (all_kept c.args.lane c.self.inside.ledger c.seal.new.ledger c.self.view_is)
]

pub returns-clause-own : goal.returns-clause-own
returns-clause-own c = own_call c.args.lane c.self.inside.ledger c.self.view_is (left_same refl) (apart c.args.lane c.self.inside.ledger c.seal.new.ledger c.seal.result c.self.view_is (λ a t. by_event c.self.view_is t.notes t.its.steady) c.seal.ensures.ok c.seal.ensures.err)
