-- Legal histories. Events are numbered from 1.
use Rattle.std.specs.Prelude.{◌≡◌, ℕ, ◌+◌, ◌==◌, List, [], ◌∷◌, ◌++◌, length, if◌then◌else◌}
use Rattle.image_layout.specs.declared.geometry.Geometry.{Geometry}
use Rattle.store_model.specs.declared.events.Event.{Event}
use Rattle.store_model.specs.State.{State, Standing, opened, factory}
use Rattle.store_model.specs.Step.{IsDue, step}

-- what a history begins with: a store that lasted so, or one in which a first image is made
pub data Beginning : Type 0 where
  Lasted : Standing → Beginning
  Factory : Beginning

pub record Origin : Type 0 where
  pub geometry : Geometry
  pub beginning : Beginning

abbrev first_state : Geometry → Beginning → State
first_state g (Lasted d) = opened g d
first_state g Factory = factory g

abbrev pub start : Origin → State
start origin = first_state origin.geometry origin.beginning

-- each event is due where it comes, from this state and number on
abbrev pub IsLegalFrom : State → ℕ → List Event → Type 0
IsLegalFrom s number [] = Unit {0}
IsLegalFrom s number (e ∷ es) = IsDue s number e × IsLegalFrom (step s number e) (number + 1) es

abbrev pub after_from : State → ℕ → List Event → State
after_from s number [] = s
after_from s number (e ∷ es) = after_from (step s number e) (number + 1) es

-- the history may come
abbrev pub IsLegal : Origin → List Event → Type 0
IsLegal origin history = IsLegalFrom (start origin) 1 history

-- the state after the history
abbrev pub after : Origin → List Event → State
after origin history = after_from (start origin) 1 history

-- One more event: where it is due, the history stays legal, and the state is the step's.
pub record GoesOn (origin : Origin) (history : List Event) (e : Event) : Type 0 where
  pub legal : IsLegal origin (history ++ e ∷ [])
  pub state : after origin (history ++ e ∷ []) ≡ step (after origin history) (length history + 1) e

-- ---- the events of a lane

-- an event with its number
pub record Numbered : Type 0 where
  pub number : ℕ
  pub event : Event

-- the lane's events of a history whose first has this number
abbrev pub of_lane_from : ℕ → ℕ → List Event → List Numbered
of_lane_from lane number [] = []
of_lane_from lane number (e ∷ es) =
    if e.lane == lane then record { number = number; event = e } ∷ of_lane_from lane (number + 1) es
    else of_lane_from lane (number + 1) es

abbrev pub of_lane : ℕ → List Event → List Numbered
of_lane lane history = of_lane_from lane 1 history
