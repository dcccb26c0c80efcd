use Rattle.std.proofs.Common.{◌≡◌, List, [], ◌∷◌, refl, sym, ap, subst, ◌∙◌}
use Rattle.pkg_names.specs.declared.root.Root.{Root}
use Rattle.store_model.specs.declared.ends.WantEnd.TheVariants as wants
use Rattle.store_model.specs.State.{State, arrival_of}
use Rattle.store_model.specs.Acts.Want.{next_want}
use Rattle.plain_state.specs.Learning.{Forgets, listed, replaced_by}
use Rattle.plain_state.proofs.SettledActs.{opens}
use Rattle.plain_state.proofs.HoldingCounts.{listed_replaced}
use Rattle.plain_state.proofs.state.State.open_arrived.Goals as goal

pub returns-in-Some-clause-ok : goal.returns-in-Some-clause-ok
returns-in-Some-clause-ok c =
    let t : State = c.args.self.now in
    let then : State = next_want t c.args.number c.args.lane c.args.ticket wants.Opened in
    let roots : replaced_by t (arrival_of t.arriving c.args.ticket) ≡ c.in-Some.root ∷ [] =
    listed_replaced t (arrival_of t.arriving c.args.ticket) ∙ ap listed (sym c.replaced-replaced.ensures ∙ c.in-Some.is) in
    opens t c.args.number c.args.lane c.args.ticket c.forget.new.self c.requires.ready
    (subst (λ (rs : List Root). Forgets rs then c.forget.new.self) (sym roots)
    (subst (λ (s : State). Forgets (c.in-Some.root ∷ []) s c.forget.new.self) c.in_ok-open_ticket.ensures.ok c.forget.ensures))

pub returns-in_default-clause-ok : goal.returns-in_default-clause-ok
returns-in_default-clause-ok c =
    let t : State = c.args.self.now in
    let then : State = next_want t c.args.number c.args.lane c.args.ticket wants.Opened in
    let roots : replaced_by t (arrival_of t.arriving c.args.ticket) ≡ [] =
    listed_replaced t (arrival_of t.arriving c.args.ticket) ∙ ap listed (sym c.replaced-replaced.ensures ∙ c.in_default.is) in
    let nothing : Forgets [] then then = record { rest = refl; books = λ other. refl } in
    opens t c.args.number c.args.lane c.args.ticket c.open_ticket.new.self c.requires.ready
    (subst (λ (s : State). Forgets (replaced_by t (arrival_of t.arriving c.args.ticket)) then s) (sym c.in_ok-open_ticket.ensures.ok)
    (subst (λ (rs : List Root). Forgets rs then then) (sym roots) nothing))
