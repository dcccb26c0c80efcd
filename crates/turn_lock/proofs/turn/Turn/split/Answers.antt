use Rattle.std.proofs.Common.{arith, ap, ◌∙◌, sym, subst}
use Rattle.turn_lock.specs.Sitting.{Has}
use Rattle.turn_lock.specs.Rule.{log}
use Rattle.turn_lock.proofs.Ends.{twins}
use Rattle.turn_lock.proofs.Seats.{naming, splitting, named_is}
use Rattle.turn_lock.proofs.turn.Turn.split.Goals as goal

pub compare_exchange-requires : goal.compare_exchange-requires
compare_exchange-requires g c = (
  ap (λ z. z.lock.board) c.seat.view_is ∙ (ap (λ z. z.board) c.requires.lock ∙ sym (ap (λ z. z.board) c.self.view_is)),
  omega (arith, c.self.invariant.0),
  naming (log g.T.Logged.entries g.T.Logged.by g.T.Logged.origin g.T.Logged.held) c.self.inside.board.shared.key.value _ _ _ c.seat.inside.stamp.me.0 c.seat.inside.place.me c.seat.invariant.0,
)

pub split_seat-place-requires : goal.split_seat-place-requires
split_seat-place-requires g c = (
  c.compare_exchange.ensures.0 ∙ (ap (λ z. z.lock.board) c.seat.view_is ∙ (ap (λ z. z.board) c.requires.lock ∙ sym (ap (λ z. z.board) c.self.view_is))),
  omega (arith, c.self.invariant.0),
  splitting (log g.T.Logged.entries g.T.Logged.by g.T.Logged.origin g.T.Logged.held) c.self.inside.board.shared.key.value _ c.args.lane c.seat.inside.stamp.me.0 c.seat.inside.place.me c.compare_exchange.new.seat.me
      (named_is (log g.T.Logged.entries g.T.Logged.by g.T.Logged.origin g.T.Logged.held) c.self.inside.board.shared.key.value c.args.lane c.seat.inside.stamp.me.0 c.seat.inside.place.me c.compare_exchange.new.seat.me c.compare_exchange.result c.seat.invariant.0 c.compare_exchange.ensures.2)
      (ap (λ z. z.lane) c.seat.view_is ∙ c.requires.first) c.requires.lane.0 (omega (arith, c.ranges.lane))
      (λ h. c.requires.lane.1 (subst (λ z. Has z.splits c.args.lane) c.seat.view_is h)),
)

pub split_seat-stamp-requires : goal.split_seat-stamp-requires
split_seat-stamp-requires g c = (
  ap (λ z. z.lock.stamps) c.seat.view_is ∙ (ap (λ z. z.stamps) c.requires.lock ∙ sym (ap (λ z. z.stamps) c.self.view_is)),
  omega (arith, c.self.invariant.2),
  twins (log g.T.Logged.entries g.T.Logged.by g.T.Logged.origin g.T.Logged.held) c.self.inside.stamps.shared.key.value _ c.seat.inside.stamp.me.0,
)
