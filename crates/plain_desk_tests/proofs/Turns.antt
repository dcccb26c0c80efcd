-- A lane's turn at the store, and the other lanes.
use Rattle.std.proofs.Common.{◌≡◌, ◌≢◌, ℕ, List, [], refl, ap}
use Rattle.std.proofs.lemmas.Bool.{eqb-false}
use Rattle.store_model.specs.History.{Numbered}
use Rattle.store_model.specs.Holding.{held}
use Rattle.plain_desk.specs.Stores.{StoreOf, AddsOwn, view_of}
use Rattle.plain_desk.proofs.Own.{leaves_others}
use Rattle.lane_steps.specs.declared.hand.Hand.{Hand}
use Rattle.lane_steps.specs.Hands.{Fits}
use Rattle.lane_steps.proofs.Kept.{fits_same}

-- another lane has in hand what it had
pub fits_still : (lane other : ℕ) (hand : Hand) (old new : StoreOf) → lane ≢ other → AddsOwn lane old.history new.history → Fits hand (view_of [] other old) → Fits hand (view_of [] other new)
fits_still lane other hand old new differs adds fits =
    fits_same hand (view_of [] other old) (view_of [] other new)
    (ap (λ (es : List Numbered). held es) (leaves_others lane old.history new.history adds other differs)) fits

-- the lanes are different
pub one_two : ◌≢◌ {A = ℕ} 1 2
one_two = eqb-false 1 2 refl

pub one_three : ◌≢◌ {A = ℕ} 1 3
one_three = eqb-false 1 3 refl

pub two_one : ◌≢◌ {A = ℕ} 2 1
two_one = eqb-false 2 1 refl

pub two_three : ◌≢◌ {A = ℕ} 2 3
two_three = eqb-false 2 3 refl

pub three_one : ◌≢◌ {A = ℕ} 3 1
three_one = eqb-false 3 1 refl

pub three_two : ◌≢◌ {A = ℕ} 3 2
three_two = eqb-false 3 2 refl
