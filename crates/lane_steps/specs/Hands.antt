-- What a lane of a test has in hand, and what it then holds.
use Rattle.std.specs.Prelude.{◌≡◌, List, ◌++◌}
use Rattle.store_model.specs.declared.events.Event.{Event}
use Rattle.store_model.specs.State.Phase.{Filling}
use Rattle.store_model.specs.Desk.{View, held_by, Stays}
use Rattle.store_model.specs.Calls.{HoldsTicket, HoldsNoClaim, HoldsNewClaim, HoldsRoom, HoldsStage, HoldsSealed, HoldsAnyStage}
use Rattle.lane_steps.specs.declared.hand.Hand.{Hand}
use Rattle.lane_steps.specs.declared.hand.Hand.TheVariants as hands

-- what the lane holds at its desk, where this is in its hand
abbrev pub Fits : Hand → View → Type 0
Fits hands.Lost v = Unit {0}
Fits hands.Free v = HoldsNoClaim v
Fits (hands.Asking ticket) v = HoldsTicket v ticket × HoldsNoClaim v
Fits (hands.Granted ticket claim) v = HoldsTicket v ticket × HoldsNewClaim v claim.root
Fits (hands.Roomy ticket claim) v = HoldsTicket v ticket × HoldsRoom v claim.root
Fits hands.Filling v = HoldsNoClaim v × HoldsStage v Filling
Fits hands.Sealed v = HoldsNoClaim v × HoldsSealed v
Fits hands.Done v = HoldsNoClaim v × HoldsAnyStage v

-- the lane holds the same tickets, claim and update; directories may come and go
pub record HoldsAsMuch (old new : View) : Type 0 where
  pub tickets : (held_by new).tickets ≡ (held_by old).tickets
  pub claim : (held_by new).claim ≡ (held_by old).claim
  pub stage : (held_by new).stage ≡ (held_by old).stage

-- It is the lane's desk at the same store, and what was seen is the begin of what is seen.
pub record Grows (old new : View) : Type 0 where
  pub stays : Stays old new
  pub more : List Event
  pub seen : new.seen ≡ old.seen ++ more
