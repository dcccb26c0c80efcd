-- What a lane holds by its own events is what the state says.
use Rattle.std.proofs.Common.{inl, inr, ◌≡◌, ◌+◌, ℕ, List, [], ◌∷◌, refl, sym, subst}
use Rattle.std.specs.Prelude.{◌==◌}
use Rattle.std.proofs.lemmas.Bool.{cases_Bool, eqb-true, eqb-false}
use Rattle.image_layout.specs.declared.geometry.Geometry.{Geometry}
use Rattle.store_model.specs.declared.events.Event.{Event}
use Rattle.store_model.specs.State.{State}
use Rattle.store_model.specs.Step.{IsDue, step}
use Rattle.store_model.specs.History.{Beginning, Origin, start, IsLegalFrom, IsLegal, after_from, after, of_lane_from, of_lane}
use Rattle.store_model.specs.History.Beginning.{Lasted, Factory}
use Rattle.store_model.specs.Lanes.{StandOnce}
use Rattle.store_model.specs.Holding.{Held, nothing_held, held_after_event, held_from, held}
use Rattle.store_model.specs.Held.{HoldsAsState}
use Rattle.store_model.proofs.LanesOnce.{once_after, stand_once}
use Rattle.store_model.proofs.LanesApart.{left_alone}
use Rattle.store_model.proofs.HoldingParts.{HoldsIn, as_state, as_before}
use Rattle.store_model.proofs.HoldingOwn.{own_event}

begin_holds : (lane : ℕ) (g : Geometry) (b : Beginning) → HoldsIn lane nothing_held (start (record { geometry = g; beginning = b }))
begin_holds lane g (Lasted d) = record { tickets = refl; claim = refl; dirs = refl; stage = refl }
begin_holds lane g Factory = record { tickets = refl; claim = refl; dirs = refl; stage = refl }

own_at : (lane : ℕ) (s : State) (number : ℕ) (h : Held) (e : Event) → e.lane ≡ lane → HoldsIn lane h s → IsDue s number e → HoldsIn lane (held_after_event h number e) (step s number e)
own_at lane s number h e same holds due =
    subst (λ (l : ℕ). HoldsIn l (held_after_event h number e) (step s number e)) same
    (own_event s number h e (subst (λ (l : ℕ). HoldsIn l h s) (sym same) holds) due)

-- from any state on in which all stands once
pub holds_from : (lane : ℕ) (s : State) (number : ℕ) (h : Held) (history : List Event) → StandOnce s number → HoldsIn lane h s → IsLegalFrom s number history
    → HoldsIn lane (held_from h (of_lane_from lane number history)) (after_from s number history)
holds_from lane s number h [] once holds legal = holds
holds_from lane s number h (e ∷ es) once holds legal =
    let next_once : StandOnce (step s number e) (number + 1) = once_after s number e legal.0 once in
    elim (cases_Bool (e.lane == lane)) [
      | inl own ↦
          let here : HoldsIn lane (held_after_event h number e) (step s number e) = own_at lane s number h e (eqb-true e.lane lane own) holds legal.0 in
          rw own (holds_from lane (step s number e) (number + 1) (held_after_event h number e) es next_once here legal.1)
      | inr other ↦
          let here : HoldsIn lane h (step s number e) =
          as_before lane h s (step s number e) (left_alone s number e lane once legal.0 (λ same. eqb-false e.lane lane other same)) holds in
          rw other (holds_from lane (step s number e) (number + 1) h es next_once here legal.1)
    ]

-- after a legal history
pub holds_in : (origin : Origin) (history : List Event) (lane : ℕ) → IsLegal origin history → HoldsIn lane (held (of_lane lane history)) (after origin history)
holds_in origin history lane legal =
    holds_from lane (start origin) 1 nothing_held history (stand_once origin [] tt) (begin_holds lane origin.geometry origin.beginning) legal

pub holds_as_state : (origin : Origin) (history : List Event) (lane : ℕ) → IsLegal origin history → HoldsAsState lane (held (of_lane lane history)) (after origin history)
holds_as_state origin history lane legal =
    as_state lane (held (of_lane lane history)) (after origin history) (holds_in origin history lane legal)
