use Rattle.std.proofs.Common.{arith, ap, ◌∙◌, sym}
use Rattle.turn_lock.specs.Rule.{log}
use Rattle.turn_lock.proofs.Seats.{merging, merged_is, telling, resting}
use Rattle.turn_lock.proofs.turn.Turn.join.Goals as goal

pub join_seat-requires : goal.join_seat-requires
join_seat-requires g c = (
  ap (λ z. z.lock.board) c.seat.view_is ∙ (ap (λ z. z.board) c.requires.lock.0 ∙ sym (ap (λ z. z.board) c.self.view_is)),
  ap (λ z. z.lock.board) c.into_parts-place.ensures.view ∙ (ap (λ z. z.board) c.requires.lock.1 ∙ sym (ap (λ z. z.board) c.self.view_is)),
  ap (λ z. z.1) c.into_parts-place.ensures.rests,
  omega (arith, c.self.invariant.0),
  merging (log g.T.Logged.entries g.T.Logged.by g.T.Logged.origin g.T.Logged.held) c.self.inside.board.shared.key.value _ _ c.seat.inside.stamp.me.0 c.into_parts-place.result.1.me.0
      c.seat.inside.place.me c.into_parts-place.result.0.me c.seat.invariant.0 c.into_parts-place.ensures.rests (ap (λ z. z.lane) c.seat.view_is ∙ c.requires.first),
)

pub load-requires : goal.load-requires
load-requires g c =
    let r = log g.T.Logged.entries g.T.Logged.by g.T.Logged.origin g.T.Logged.held in (
      c.join_seat.ensures.0 ∙ (ap (λ z. z.lock.board) c.seat.view_is ∙ (ap (λ z. z.board) c.requires.lock.0 ∙ sym (ap (λ z. z.board) c.self.view_is))),
      omega (arith, c.self.invariant.0),
      telling r c.self.inside.board.shared.key.value _ _ (resting c.seat.inside.stamp.me.0 c.seat.inside.place.me) (resting c.into_parts-place.result.1.me.0 c.into_parts-place.result.0.me) c.join_seat.new.seat.me
          (merged_is r c.self.inside.board.shared.key.value c.seat.inside.stamp.me.0 c.into_parts-place.result.1.me.0 c.seat.inside.place.me c.into_parts-place.result.0.me c.join_seat.new.seat.me
          c.seat.invariant.0 c.into_parts-place.ensures.rests c.join_seat.ensures.2),
    )
