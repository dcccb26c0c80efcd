use Rattle.std.proofs.Common.{◌++◌, ◌∷◌, [], ap, sym, ◌∙◌, slice_get, length, ◌+◌}
use Rattle.turn_lock.specs.Sitting.{Sitting, mine}
use Rattle.threads_tests.specs.Depot.{Stock}
use Rattle.threads_tests.proofs.Depots.{put_none, put_once}
use Rattle.threads_tests.proofs.stations.put.Goals as goal

pub returns-clause-done : goal.returns-clause-done
returns-clause-done g c = λ e.
    let v = c.put-done.new.self in
    let begun = c.value.ensures.value ∙ c.enter-inside.ensures.value in
    let p = c.put-done.ensures.entry e in
    let lane = ap (λ z. z.lane) c.enter-inside.ensures.seat in
    put_once c.args.piece.now c.args.seat c.leave.result v
    (c.leave.ensures.seat ∙ ap {A = Sitting (Stock g.row.D.Denot)} (λ z. record z { seen = v; kept = v }) c.enter-inside.ensures.seat)
    _ c.value.result.now c.lane-lane.result
    (c.leave.ensures.entry p.0 (p.1 ∙ (c.lane-lane.ensures ∙ sym lane)) (p.2 ∙ ap (λ z. z.puts ++ p.0 ∷ []) begun)
    ∙ ap (λ z. mine (λ x. x.puts) (λ q. q.lane) z ++ (length c.enter-inside.result.start.puts + 1, p.0) ∷ []) c.enter-inside.ensures.seat)
    c.lane-lane.ensures
    (ap (λ z. slice_get z.drafts c.args.seat.lane) c.value.ensures.value ∙ c.enter-inside.ensures.kept)
    (c.put-done.ensures.draft e)

pub returns-clause-refused : goal.returns-clause-refused
returns-clause-refused g c = λ e.
    let v = c.put-done.new.self in
    let old = c.put-done.ensures.refused e in
    put_none c.args.piece.now c.args.seat c.leave.result v
    (c.leave.ensures.seat ∙ ap {A = Sitting (Stock g.row.D.Denot)} (λ z. record z { seen = v; kept = v }) c.enter-inside.ensures.seat)
    (c.leave.ensures.quiet (ap (λ z. z.puts) (old ∙ (c.value.ensures.value ∙ c.enter-inside.ensures.value)))
    ∙ ap (λ z. mine (λ x. x.puts) (λ q. q.lane) z) c.enter-inside.ensures.seat)
    (ap (λ z. slice_get z.drafts c.args.seat.lane) (old ∙ c.value.ensures.value) ∙ c.enter-inside.ensures.kept)
