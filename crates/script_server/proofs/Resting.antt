-- What a lane that holds nothing is in the state.
use Rattle.std.proofs.Common.{◌≡◌, ℕ, List, [], ◌∷◌, map, Option, Some, None, refl, sym, ap, ◌∙◌}
use Rattle.std.specs.Option.{option_map, option_to_list}
use Rattle.store_model.specs.declared.events.Event.{Event}
use Rattle.store_model.specs.State.{State}
use Rattle.store_model.specs.Holding.{Held, held}
use Rattle.store_model.specs.Held.{HoldsAsState}
use Rattle.store_model.specs.Lanes.{claims_of, tickets_of, stage_of}
use Rattle.store_model.specs.History.{Origin, IsLegal, after, of_lane}
use Rattle.store_model.proofs.Holding.{holds_as_state}
use Rattle.script_server.specs.Lanes.{IsAtRest}
use Rattle.script_server.specs.Serving.{RestsIn}

map-nil : {A B : Type 0} (f : A → B) (xs : List A) → ◌≡◌ {A = List B} [] (map f xs) → xs ≡ []
map-nil f [] same = refl
map-nil f (x ∷ xs) same = absurd cc

map-none : {A B : Type 0} (f : A → B) (x : Option A) → ◌≡◌ {A = Option B} None (option_map f x) → x ≡ None
map-none f None same = refl
map-none f (Some x) same = absurd cc

pub rests_in : (lane : ℕ) (h : Held) (s : State) → HoldsAsState lane h s → IsAtRest h → RestsIn lane s
rests_in lane h s holds rest = record {
  claims = map-nil _ (claims_of lane s) (ap option_to_list (sym rest.claim) ∙ holds.claim);
  tickets = map-nil _ (tickets_of lane s) (sym rest.tickets ∙ holds.tickets);
  stage = map-none _ (stage_of lane s) (sym rest.stage ∙ holds.stage);
}

pub at_rest : (origin : Origin) (history : List Event) (lane : ℕ) → IsLegal origin history → IsAtRest (held (of_lane lane history))
    → RestsIn lane (after origin history)
at_rest origin history lane legal rest =
    rests_in lane (held (of_lane lane history)) (after origin history) (holds_as_state origin history lane legal) rest
