use Rattle.std.proofs.Common.{ap, ◌∙◌, sym, subst, refl}
use Rattle.std.specs.Option.{IsSome}
use Rattle.turn_lock.specs.Sitting.{Has, Lock}
use Rattle.turn_lock.specs.Rule.{log}
use Rattle.turn_lock.proofs.Seats.{closing, closed}
use Rattle.turn_lock.proofs.turn.Turn.close.Goals as goal

pub unwrap-value-requires : goal.unwrap-value-requires
unwrap-value-requires g c =
    let f = closing (log g.T.Logged.entries g.T.Logged.by g.T.Logged.origin g.T.Logged.held) c.self.inside.board.shared.key.value c.args.seat.lock c.into_parts-place.result.1.me.0 c.into_parts-place.result.0.id
    c.into_parts-place.result.0.me _ _ c.take.result c.into_parts-place.ensures.rests
    (ap (λ z. z.lane) c.into_parts-place.ensures.view ∙ c.requires.first)
    (λ l h. subst (λ z. Has z.ended l) (sym c.into_parts-place.ensures.view) (c.requires.joined l (subst (λ z. Has z.splits l) c.into_parts-place.ensures.view h)))
    c.close_with-closed.ensures.values.2 c.take.ensures.value in
    subst IsSome (sym f.1) refl

pub returns : goal.returns
returns g c =
    let z : Lock = record { board = c.into_parts-place.result.0.table_id; stamps = c.into_parts-place.result.1.table_id } in
    let f = closed (log g.T.Logged.entries g.T.Logged.by g.T.Logged.origin g.T.Logged.held) c.self.inside.board.shared.key.value z c.into_parts-place.result.1.me.0 c.into_parts-place.result.0.id
    c.into_parts-place.result.0.me _ _ c.take.result c.args.seat c.unwrap-value.result c.into_parts-place.ensures.rests
    (ap (λ v. v.lane) c.into_parts-place.ensures.view ∙ c.requires.first)
    (λ l h. subst (λ v. Has v.ended l) (sym c.into_parts-place.ensures.view) (c.requires.joined l (subst (λ v. Has v.splits l) c.into_parts-place.ensures.view h)))
    c.close_with-closed.ensures.values.2 c.take.ensures.value c.into_parts-place.ensures.view c.unwrap-value.ensures in
    record { origin = f.origin; list = f.list; since = f.since; unsplit = f.unsplit; kept = f.kept; remains = f.remains; untouched = f.untouched }
