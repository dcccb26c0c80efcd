use Rattle.std.proofs.Common.{arith, ap, ◌∙◌, sym, ◌+◌, ◌%◌, ◌^◌}
use Rattle.turn_lock.specs.Rule.{log}
use Rattle.turn_lock.proofs.Keeps.{stirs}
use Rattle.turn_lock.proofs.turn.Turn.stir.Goals as goal

pub fetch_add-requires : goal.fetch_add-requires
fetch_add-requires g c = (
  ap (λ z. z.lock.board) c.seat.view_is ∙ (ap (λ z. z.board) c.requires.lock ∙ sym (ap (λ z. z.board) c.self.view_is)),
  omega (arith, c.self.invariant.0, c.requires.word.1),
  stirs (log g.T.Logged.entries g.T.Logged.by g.T.Logged.origin g.T.Logged.held) c.self.inside.board.shared.key.value _ _ c.seat.inside.place.me c.args.word (λ n. (n + 1) % 2 ^ 64) c.requires.word.0,
)
