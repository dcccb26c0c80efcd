-- What holds of three lanes at a store.
use Rattle.std.specs.Prelude.{◌≡◌, []}
use Rattle.store_model.specs.Desk.{held_by}
use Rattle.store_model.specs.Holding.{nothing_held}
use Rattle.plain_desk.specs.declared.opening.Opening.{Opening}
use Rattle.plain_desk.specs.declared.opening.Opening.TheVariants.{Booted}
use Rattle.plain_desk.specs.Stores.{StoreOf, view_of}
use Rattle.lane_steps.specs.declared.hand.Hand.{Hand}
use Rattle.lane_steps.specs.Hands.{Fits}

-- each lane holds what is in its hand
pub record Seated (one two three : Hand) (s : StoreOf) : Type 0 where
  pub first : Fits one (view_of [] 1 s)
  pub second : Fits two (view_of [] 2 s)
  pub third : Fits three (view_of [] 3 s)

-- none of the lanes holds anything
pub record HoldNothing (s : StoreOf) : Type 0 where
  pub one : held_by (view_of [] 1 s) ≡ nothing_held
  pub two : held_by (view_of [] 2 s) ≡ nothing_held
  pub three : held_by (view_of [] 3 s) ≡ nothing_held

-- where the store has booted, the lanes hold nothing
abbrev pub OpensEmpty : Opening → Type 0
OpensEmpty (Booted store) = HoldNothing store
OpensEmpty other = Unit {0}
