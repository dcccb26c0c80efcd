use Rattle.std.proofs.Common.{◌≢◌, List, All, refl, sym, ap, subst, ◌∙◌}
use Rattle.package_indexes.specs.declared.Arriving.{Arriving}
use Rattle.store_model.specs.declared.ends.BeginEnd.TheVariants as begun
use Rattle.store_model.specs.State.{State, Arrival}
use Rattle.store_model.specs.Acts.Begin.{next_begin}
use Rattle.plain_state.specs.contracts.state.State.{the_view}
use Rattle.plain_state.proofs.Joined.{fresh_arriving, fresh_marks, last_goes, joined_last, marked_last}
use Rattle.plain_state.proofs.state.State.arrive.Goals as goal

pub arrive-requires : goal.arrive-requires
arrive-requires c =
    fresh_arriving c.self.inside.indexes.arriving c.self.inside.queue.marks c.args.number c.self.invariant
    (subst (λ (s : State). All (λ (a : Arrival). a.ticket ≢ c.args.number) s.arriving) (sym c.self.view_is) c.requires)

pub enlist-requires : goal.enlist-requires
enlist-requires c =
    fresh_marks c.self.inside.indexes.arriving c.self.inside.queue.marks c.args.number c.self.invariant
    (subst (λ (s : State). All (λ (a : Arrival). a.ticket ≢ c.args.number) s.arriving) (sym c.self.view_is) c.requires)

pub invariant_of-self-in-Err : goal.invariant_of-self-in-Err
invariant_of-self-in-Err c =
    let fresh = fresh_arriving c.self.inside.indexes.arriving c.self.inside.queue.marks c.args.number c.self.invariant
    (subst (λ (s : State). All (λ (a : Arrival). a.ticket ≢ c.args.number) s.arriving) (sym c.self.view_is) c.requires) in
    let a : Arriving = record { ticket = c.args.number; lane = c.args.lane; path = c.args.path.now; root = c.args.root } in
    rw (c.depart.ensures, c.in_ok-arrive.ensures.ok, c.in-Err.ensures.err, last_goes c.self.inside.indexes.arriving a c.args.number fresh refl) c.self.invariant

pub returns-in-Err-clause-err : goal.returns-in-Err-clause-err
returns-in-Err-clause-err c =
    let fresh = fresh_arriving c.self.inside.indexes.arriving c.self.inside.queue.marks c.args.number c.self.invariant
    (subst (λ (s : State). All (λ (a : Arrival). a.ticket ≢ c.args.number) s.arriving) (sym c.self.view_is) c.requires) in
    let a : Arriving = record { ticket = c.args.number; lane = c.args.lane; path = c.args.path.now; root = c.args.root } in
    rw (c.depart.ensures, c.in_ok-arrive.ensures.ok, c.in-Err.ensures.err, last_goes c.self.inside.indexes.arriving a c.args.number fresh refl) c.self.view_is

pub invariant_of-self-in_default : goal.invariant_of-self-in_default
invariant_of-self-in_default c =
    rw (c.in_ok-arrive.ensures.ok, c.in_default.ensures.ok)
    (marked_last c.self.inside.indexes.arriving c.self.inside.queue.marks _ _ c.self.invariant refl)

pub returns-clause-ok : goal.returns-clause-ok
returns-clause-ok c =
    rw (c.in_ok-arrive.ensures.ok, c.in_default.ensures.ok)
    (ap (λ (arriving : List Arrival). record (the_view c.self.inside) { arriving = arriving })
    (joined_last c.self.inside.indexes.arriving c.self.inside.queue.marks _ _ c.self.invariant)
    ∙ ap (λ (s : State). next_begin s c.args.number c.args.lane c.args.path.now (begun.Ticket c.args.root)) c.self.view_is)
