use Rattle.std.proofs.Common.{List, sym, ap, ◌∙◌, Some, None}
use Rattle.std.specs.Prelude.{option_copied}
use Rattle.package_indexes.specs.declared.Arriving.{Arriving}
use Rattle.package_indexes.specs.Sets.{arriving_with}
use Rattle.store_model.specs.State.{State}
use Rattle.store_model.specs.Acts.Want.{want_answer}
use Rattle.plain_state.specs.Views.{with_mark}
use Rattle.plain_state.proofs.Joined.{want_at, want_by}
use Rattle.plain_state.proofs.state.State.want_answer.Goals as goal

pub returns-in-Some : goal.returns-in-Some
returns-in-Some c =
    c.answer_for.ensures
    ∙ want_by c.args.self.now c.mark_of.result c.in-Some.arrival.now _ _ _ c.known_fault.ensures c.is_complete.ensures c.first_free.ensures
    ∙ ap (λ mark. want_answer c.args.self.now (with_mark mark c.in-Some.arrival.now)) c.mark_of.ensures.mark
    ∙ sym (want_at c.args.self.now c.self.inside.indexes.arriving c.self.inside.queue.marks c.args.ticket c.self.invariant
    (ap (λ (s : State). s.arriving) (sym c.self.view_is)) (Some c.in-Some.arrival.now)
    (ap (λ (xs : List Arriving). arriving_with xs c.args.ticket) (sym c.arriving.ensures.list) ∙ sym c.with_ticket.ensures ∙ ap option_copied c.in-Some.is))

pub returns-in-None : goal.returns-in-None
returns-in-None c =
    sym (want_at c.args.self.now c.self.inside.indexes.arriving c.self.inside.queue.marks c.args.ticket c.self.invariant
    (ap (λ (s : State). s.arriving) (sym c.self.view_is)) None
    (ap (λ (xs : List Arriving). arriving_with xs c.args.ticket) (sym c.arriving.ensures.list) ∙ sym c.with_ticket.ensures ∙ ap option_copied c.in-None.is))
