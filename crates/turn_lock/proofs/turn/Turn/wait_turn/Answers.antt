use Rattle.std.proofs.Common.{arith, ap, ◌∙◌, sym, subst}
use Rattle.turn_lock.specs.Rule.{log}
use Rattle.turn_lock.specs.Steps.{IsWaiting, Sat, came}
use Rattle.turn_lock.proofs.Seats.{waiting, not_yet, it_came}
use Rattle.turn_lock.proofs.turn.Turn.wait_turn.Goals as goal

pub load-found-requires : goal.load-found-requires
load-found-requires g c = (
  c.loop.invariant.2 ∙ (c.requires.lock ∙ sym (ap (λ z. z.board) c.self.view_is)),
  omega (arith, c.self.invariant.0),
  waiting (log g.T.Logged.entries g.T.Logged.by g.T.Logged.origin g.T.Logged.held) _ _ _ c.args.number c.loop.place.me
      (subst (IsWaiting c.args.number) (sym c.loop.invariant.4) c.requires.waits),
)

pub loop-preserved : goal.loop-preserved
loop-preserved g c =
    let r = log g.T.Logged.entries g.T.Logged.by g.T.Logged.origin g.T.Logged.held in (
      tt,
      tt,
      c.load-found.ensures.0 ∙ c.loop.invariant.2,
      c.load-found.ensures.1 ∙ c.loop.invariant.3,
      ◌∙◌ {A = Sat g.row.T.Denot}
          (not_yet r c.self.inside.board.shared.key.value c.loop.place.me c.load-found.new.seat.me c.load-found.result c.args.number
          (subst (IsWaiting c.args.number) (sym c.loop.invariant.4) c.requires.waits) c.load-found.ensures.2 c.if-found-number.false)
          c.loop.invariant.4,
    )

pub returns-then-found-number-clause-came : goal.returns-then-found-number-clause-came
returns-then-found-number-clause-came g c =
    let r = log g.T.Logged.entries g.T.Logged.by g.T.Logged.origin g.T.Logged.held in
    subst (λ m. came r m c.load-found.new.seat.me) c.loop.invariant.4
    (it_came r c.self.inside.board.shared.key.value c.loop.place.me c.load-found.new.seat.me c.load-found.result c.args.number
    (subst (IsWaiting c.args.number) (sym c.loop.invariant.4) c.requires.waits) c.load-found.ensures.2 c.if-found-number.true)
