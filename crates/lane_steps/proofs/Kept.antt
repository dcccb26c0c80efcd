-- Calls that leave what a lane has in hand.
use Rattle.std.proofs.Common.{◌≡◌, ℕ, ap, subst, ◌∙◌}
use Rattle.pkg_names.specs.NameAndVariant.{NameAndVariant}
use Rattle.store_model.specs.declared.replies.OpenReply.{OpenReply}
use Rattle.store_model.specs.declared.replies.OpenReply.TheVariants as opening
use Rattle.store_model.specs.declared.replies.CloseReply.{CloseReply}
use Rattle.store_model.specs.declared.replies.CloseReply.TheVariants as close
use Rattle.store_model.specs.Holding.{Held}
use Rattle.store_model.specs.HeldAfter.{held_after_close, IsHeldAfterOpen}
use Rattle.store_model.specs.Desk.{View, held_by}
use Rattle.store_model.specs.Calls.{Opens, Closes}
use Rattle.store_model.proofs.CallsHeld.{opened, closed}
use Rattle.store_model.proofs.CallsHandles.{ticket_stays}
use Rattle.lane_steps.specs.declared.hand.Hand.{Hand}
use Rattle.lane_steps.specs.declared.hand.Hand.TheVariants as hands
use Rattle.lane_steps.specs.Hands.{Fits, HoldsAsMuch}

-- a call after which the lane holds the same
pub as_much : (old new : View) → held_by new ≡ held_by old → HoldsAsMuch old new
as_much old new same = record {
  tickets = ap (λ (h : Held). h.tickets) same;
  claim = ap (λ (h : Held). h.claim) same;
  stage = ap (λ (h : Held). h.stage) same;
}

as_much_open : (reply : OpenReply) (old new : View) → IsHeldAfterOpen old.lane reply (held_by old) (held_by new) → HoldsAsMuch old new
as_much_open (opening.Opened dir) old new is = record {
  tickets = ap (λ (h : Held). h.tickets) is.1;
  claim = ap (λ (h : Held). h.claim) is.1;
  stage = ap (λ (h : Held). h.stage) is.1;
}
as_much_open reply old new is = as_much old new is

pub as_much_opened : (path : NameAndVariant) (reply : OpenReply) (old new : View) → Opens path reply old new → HoldsAsMuch old new
as_much_opened path reply old new does = as_much_open reply old new (opened path reply old new does)

as_much_close : (dir : ℕ) (reply : CloseReply) (old new : View) → held_by new ≡ held_after_close old.lane dir reply (held_by old) → HoldsAsMuch old new
as_much_close dir close.NoMemory old new is = as_much old new is
as_much_close dir reply old new is = record {
  tickets = ap (λ (h : Held). h.tickets) is;
  claim = ap (λ (h : Held). h.claim) is;
  stage = ap (λ (h : Held). h.stage) is;
}

pub as_much_closed : (dir : ℕ) (reply : CloseReply) (old new : View) → Closes dir reply old new → HoldsAsMuch old new
as_much_closed dir reply old new does = as_much_close dir reply old new (closed dir reply old new does)

-- a lane that holds as much has the same in hand
pub fits_as_much : (hand : Hand) (old new : View) → HoldsAsMuch old new → Fits hand old → Fits hand new
fits_as_much hands.Lost old new much fits = fits
fits_as_much hands.Free old new much fits = much.claim ∙ fits
fits_as_much (hands.Asking ticket) old new much fits = (ticket_stays ticket old new much.tickets fits.0, much.claim ∙ fits.1)
fits_as_much (hands.Granted ticket claim) old new much fits = (ticket_stays ticket old new much.tickets fits.0, much.claim ∙ fits.1)
fits_as_much (hands.Roomy ticket claim) old new much fits =
    (ticket_stays ticket old new much.tickets fits.0, (fits.1.0, much.claim ∙ fits.1.1))
fits_as_much hands.Filling old new much fits = (much.claim ∙ fits.0, much.stage ∙ fits.1)
fits_as_much hands.Sealed old new much fits = (much.claim ∙ fits.0, (fits.1.0, much.stage ∙ fits.1.1))
fits_as_much hands.Done old new much fits = (much.claim ∙ fits.0, (fits.1.0, much.stage ∙ fits.1.1))

pub fits_same : (hand : Hand) (old new : View) → held_by new ≡ held_by old → Fits hand old → Fits hand new
fits_same hand old new same fits = fits_as_much hand old new (as_much old new same) fits

-- what fits a hand fits what the hand is
pub fits_in : (hand is : Hand) (v : View) → hand ≡ is → Fits hand v → Fits is v
fits_in hand is v same fits = subst (λ (h : Hand). Fits h v) same fits
