use Rattle.std.proofs.Common.{arith, ap, ◌∙◌, sym}
use Rattle.turn_lock.specs.Rule.{log}
use Rattle.turn_lock.proofs.Seats.{entering, waits_after, out}
use Rattle.turn_lock.proofs.turn.Turn.enter.Goals as goal

pub fetch_add-number-requires : goal.fetch_add-number-requires
fetch_add-number-requires g c =
    let r = log g.T.Logged.entries g.T.Logged.by g.T.Logged.origin g.T.Logged.held in (
      ap (λ z. z.lock.board) c.into_parts-place.ensures.view ∙ (ap (λ z. z.board) c.requires ∙ sym (ap (λ z. z.board) c.self.view_is)),
      omega (arith, c.self.invariant.0),
      entering r _ _ _ c.into_parts-place.result.1.me.0 c.into_parts-place.result.0.me c.into_parts-place.ensures.rests,
    )

pub wait_turn-requires-clause-waits : goal.wait_turn-requires-clause-waits
wait_turn-requires-clause-waits g c = waits_after c.into_parts-place.result.1.me.0 c.into_parts-place.result.0.me c.fetch_add-number.new.seat.me c.fetch_add-number.result c.into_parts-place.ensures.rests c.fetch_add-number.ensures.2

pub exchange-requires : goal.exchange-requires
exchange-requires g c = (
  c.wait_turn.ensures.same.0 ∙ (c.fetch_add-number.ensures.0 ∙ (ap (λ z. z.lock.board) c.into_parts-place.ensures.view ∙ (ap (λ z. z.board) c.requires ∙ sym (ap (λ z. z.board) c.self.view_is)))),
  out (log g.T.Logged.entries g.T.Logged.by g.T.Logged.origin g.T.Logged.held) c.self.inside.board.shared.key.value c.into_parts-place.result.1.me.0 c.into_parts-place.result.0.me c.fetch_add-number.new.seat.me c.wait_turn.new.place.me c.fetch_add-number.result c.into_parts-place.ensures.rests c.fetch_add-number.ensures.2 c.wait_turn.ensures.came,
)
