use Rattle.std.proofs.Common.{arith, ap, ◌∙◌, sym, subst}
use Rattle.turn_lock.specs.Sitting.{Lock}
use Rattle.turn_lock.specs.Rule.{log, TakesTurn}
use Rattle.turn_lock.proofs.Seats.{leaving, left, left_rests, left_lane, left_view, had_found, leaves_for, Leaves, FindsFor}
use Rattle.turn_lock.proofs.turn.Turn.serve.Goals as goal

pub fetch_add-requires : goal.fetch_add-requires
fetch_add-requires g c =
    let r = log g.T.Logged.entries g.T.Logged.by g.T.Logged.origin g.T.Logged.held in (
      c.put.ensures.0 ∙ (ap (λ z. z.seat.lock.board) c.inside.view_is ∙ (ap (λ z. z.board) c.requires.lock ∙ sym (ap (λ z. z.board) c.self.view_is))),
      omega (arith, c.self.invariant.0),
      leaving r _ _ _ c.inside.inside.stamp.me.0 c.inside.inside.place.me c.put.new.place.me c.inside.inside.value c.inside.invariant.0 c.put.ensures.2
          (subst (λ z. TakesTurn r z.seat.lane z.start z.value) (sym c.inside.view_is) c.requires.turn),
    )

pub invariant_of-result : goal.invariant_of-result
invariant_of-result g c =
    let r = log g.T.Logged.entries g.T.Logged.by g.T.Logged.origin g.T.Logged.held in let me = c.inside.inside.place.me in let d = c.inside.inside.stamp.me.0 in let y = c.inside.inside.value in
    let is = left r c.self.inside.board.shared.key.value d me c.put.new.place.me c.fetch_add.new.seat.me y c.fetch_add.result c.inside.invariant.0 c.put.ensures.2 c.fetch_add.ensures.2 in
    (left_rests d me c.fetch_add.new.seat.me y is, left_lane c.inside.inside.lane d me c.fetch_add.new.seat.me y is c.inside.invariant.1)

pub returns : goal.returns
returns g c =
    let r = log g.T.Logged.entries g.T.Logged.by g.T.Logged.origin g.T.Logged.held in let key = c.self.inside.board.shared.key.value in
    let me = c.inside.inside.place.me in let d = c.inside.inside.stamp.me.0 in let y = c.inside.inside.value in
    let z : Lock = record { board = c.inside.inside.place.table_id; stamps = c.inside.inside.stamp.table_id } in
    let is = left_view c.inside.inside.place.table_id c.fetch_add.new.seat.table_id c.inside.inside.stamp.table_id d me c.fetch_add.new.seat.me y c.inside.invariant.0 (c.fetch_add.ensures.0 ∙ c.put.ensures.0)
    (left r key d me c.put.new.place.me c.fetch_add.new.seat.me y c.fetch_add.result c.inside.invariant.0 c.put.ensures.2 c.fetch_add.ensures.2)
    ∙ ap (λ v. record v.seat { seen = v.value; kept = v.value }) c.inside.view_is in
    let f = had_found r key z d me c.put.new.place.me c.fetch_add.new.seat.me y c.fetch_add.result c.inside.invariant.0 c.put.ensures.2 c.fetch_add.ensures.2 in
    let l = subst (λ v. Leaves r key c.args.inside v) (sym is)
    (leaves_for r key c.args.inside c.requires.turn (subst (λ v. FindsFor r key v.seat v.start) c.inside.view_is f)) in
    record { seat = l.seat; seen = l.seen; quiet = l.quiet; entry = l.entry; others = l.others; origin = l.origin }
