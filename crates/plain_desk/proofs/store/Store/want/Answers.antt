use Rattle.std.proofs.Common.{◌≡◌, Some, refl, [], sym, ap, subst, ◌∙◌}
use Rattle.store_model.specs.Desk.{Rests, IsUnbroken, state_of}
use Rattle.store_model.specs.Quiet.{IsQuiet}
use Rattle.store_model.specs.Replies.{IsWanted}
use Rattle.store_model.specs.Calls.{HoldsTicket, HoldsNoClaim}
use Rattle.store_model.specs.declared.ends.WantEnd.TheVariants as wants
use Rattle.store_model.specs.declared.replies.WantReply.TheVariants as want
use Rattle.plain_desk.specs.Stores.{StoreOf, len_of, view_of}
use Rattle.plain_desk.proofs.Stores.{moved, notes_moves, stays_moves, either, does, rests, here, rests_still, unbroken_at}
use Rattle.plain_desk.proofs.Wants.{answers, want_due, quiet, may_go_on_still}
use Rattle.plain_desk.proofs.Own.{apart, by_event, left_same, own_call}
use Rattle.plain_desk.proofs.store.Store.want.Goals as goal
use Rattle.plain_desk.proofs.store.Store.want.Goals.{in-Ok, in-Err, in-Ok-grant, in-Err-grant}

pub fail-requires : goal.fail-requires
fail-requires c = want_due c.self.inside.ledger c.args.lane c.args.ticket (wants.Failed c.in-Some-Failed.cause) c.self.invariant.holds
    (here c.self.inside.ledger (λ (s : StoreOf). HoldsTicket (view_of [] c.args.lane s) c.args.ticket) c.self.view_is c.requires.holds)
    (here c.self.inside.ledger (λ (s : StoreOf). HoldsNoClaim (view_of [] c.args.lane s)) c.self.view_is c.requires.free)
    (answers c.args.ticket c.state.ensures c.want_answer.ensures ∙ c.in-Some-Failed.is ∙ ap Some c.in-Some-Failed.field-0-is)

pub open_ticket-requires : goal.open_ticket-requires
open_ticket-requires c = want_due c.self.inside.ledger c.args.lane c.args.ticket wants.Opened c.self.invariant.holds
    (here c.self.inside.ledger (λ (s : StoreOf). HoldsTicket (view_of [] c.args.lane s) c.args.ticket) c.self.view_is c.requires.holds)
    (here c.self.inside.ledger (λ (s : StoreOf). HoldsNoClaim (view_of [] c.args.lane s)) c.self.view_is c.requires.free)
    (answers c.args.ticket c.state.ensures c.want_answer.ensures ∙ c.in-Some-Opened.is ∙ ap Some c.in-Some-Opened.field-0-is)

pub grant-requires : goal.grant-requires
grant-requires c = want_due c.self.inside.ledger c.args.lane c.args.ticket (wants.Fetch c.in-Some-Fetch.root) c.self.invariant.holds
    (here c.self.inside.ledger (λ (s : StoreOf). HoldsTicket (view_of [] c.args.lane s) c.args.ticket) c.self.view_is c.requires.holds)
    (here c.self.inside.ledger (λ (s : StoreOf). HoldsNoClaim (view_of [] c.args.lane s)) c.self.view_is c.requires.free)
    (answers c.args.ticket c.state.ensures c.want_answer.ensures ∙ c.in-Some-Fetch.is ∙ ap Some c.in-Some-Fetch.field-0-is)

pub invariant_of-self : goal.invariant_of-self
invariant_of-self c = moved c.self.invariant (notes_moves c.fail.ensures refl refl refl)

pub invariant_of-self-in-Some-Opened : goal.invariant_of-self-in-Some-Opened
invariant_of-self-in-Some-Opened c = either c.open_ticket.result (λ u n. moved c.self.invariant (notes_moves n.1 refl refl refl))
    (λ s. moved c.self.invariant (stays_moves s)) c.open_ticket.ensures.ok c.open_ticket.ensures.err

pub invariant_of-self-in-Some-Fetch : goal.invariant_of-self-in-Some-Fetch
invariant_of-self-in-Some-Fetch c = either c.grant.result (λ u n. moved c.self.invariant (notes_moves n refl (sym (ap len_of (here c.self.inside.ledger (λ (s : StoreOf). HoldsNoClaim (view_of [] c.args.lane s)) c.self.view_is c.requires.free))) refl))
    (λ s. moved c.self.invariant (stays_moves s)) c.grant.ensures.ok c.grant.ensures.err

pub returns-in-Some-Failed-clause-event : goal.returns-in-Some-Failed-clause-event
returns-in-Some-Failed-clause-event c = λ tie. does (IsWanted c.args.ticket.number (want.Failed c.in-Some-Failed.cause)) c.self.view_is c.fail.ensures (refl, refl)

pub returns-after-open_ticket-clause-event : goal.returns-after-open_ticket-clause-event
returns-after-open_ticket-clause-event c = λ tie. elim c.match-open_ticket.branch [
  | in-Ok w ↦ rw w.result-is (does (IsWanted c.args.ticket.number (want.Opened (record { number = w.in-Ok.number }))) c.self.view_is w.in-Ok.ensures.ok.1 (w.in-Ok.ensures.ok.0, (refl, refl)))
  | in-Err w ↦ rw w.result-is (
    rests c.self.view_is w.in-Err.ensures.err,
    refl,
    may_go_on_still c.args.lane c.args.ticket wants.Opened c.self.invariant.holds w.in-Err.ensures.err
        (answers c.args.ticket c.state.ensures c.want_answer.ensures ∙ c.in-Some-Opened.is ∙ ap Some c.in-Some-Opened.field-0-is) refl,
  )
]

pub returns-after-grant-clause-event : goal.returns-after-grant-clause-event
returns-after-grant-clause-event c = λ tie. elim c.match-grant.branch [
  | in-Ok-grant w ↦ rw w.result-is (does (IsWanted c.args.ticket.number (want.Fetch c.args.ticket (record { root = c.in-Some-Fetch.root }))) c.self.view_is w.in-Ok-grant.ensures.ok (refl, refl), refl)
  | in-Err-grant w ↦ rw w.result-is (
    rests c.self.view_is w.in-Err-grant.ensures.err,
    refl,
    may_go_on_still c.args.lane c.args.ticket (wants.Fetch c.in-Some-Fetch.root) c.self.invariant.holds w.in-Err-grant.ensures.err
        (answers c.args.ticket c.state.ensures c.want_answer.ensures ∙ c.in-Some-Fetch.is ∙ ap Some c.in-Some-Fetch.field-0-is) refl,
  )
]

pub returns-in-None-clause-event : goal.returns-in-None-clause-event
returns-in-None-clause-event c = λ tie.
    subst (λ (s : StoreOf). Rests (view_of tie c.args.lane s) (view_of tie c.args.lane s) × (c.args.ticket ≡ c.args.ticket)
    × IsUnbroken (view_of tie c.args.lane s) × IsQuiet (state_of (view_of tie c.args.lane s)) c.args.lane c.args.ticket.number) c.self.view_is (
      rests_still c.self.invariant.holds,
      refl,
      unbroken_at c.self.invariant.holds c.self.invariant.unbroken,
      quiet c.self.inside.ledger c.args.lane c.args.ticket c.self.invariant.holds
          (here c.self.inside.ledger (λ (s : StoreOf). HoldsTicket (view_of [] c.args.lane s) c.args.ticket) c.self.view_is c.requires.holds)
          (here c.self.inside.ledger (λ (s : StoreOf). HoldsNoClaim (view_of [] c.args.lane s)) c.self.view_is c.requires.free)
          (answers c.args.ticket c.state.ensures c.want_answer.ensures ∙ c.in-None.is),
    )

pub returns-in-Some-Failed-clause-own : goal.returns-in-Some-Failed-clause-own
returns-in-Some-Failed-clause-own c = own_call c.args.lane c.self.inside.ledger c.self.view_is (left_same refl) (by_event c.self.view_is c.fail.ensures refl)

pub returns-after-open_ticket-clause-own : goal.returns-after-open_ticket-clause-own
returns-after-open_ticket-clause-own c = own_call c.args.lane c.self.inside.ledger c.self.view_is (left_same refl) (apart c.args.lane c.self.inside.ledger c.open_ticket.new.self c.open_ticket.result c.self.view_is (λ a n. by_event c.self.view_is n.1 refl) c.open_ticket.ensures.ok c.open_ticket.ensures.err)

pub returns-after-grant-clause-own : goal.returns-after-grant-clause-own
returns-after-grant-clause-own c = own_call c.args.lane c.self.inside.ledger c.self.view_is (left_same refl) (apart c.args.lane c.self.inside.ledger c.grant.new.self c.grant.result c.self.view_is (λ a n. by_event c.self.view_is n refl) c.grant.ensures.ok c.grant.ensures.err)
