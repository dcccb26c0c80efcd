-- What a lane has in hand after its calls on an update.
use Rattle.std.proofs.Common.{◌≡◌, ℕ, None, refl, ap, ◌∙◌}
use Rattle.image_layout.specs.declared.ImageKind.{ImageKind}
use Rattle.image_layout.specs.declared.ImageSum.{ImageSum}
use Rattle.image_layout.specs.declared.Sys.{Sys}
use Rattle.pkg_names.specs.declared.root.Root.{Root}
use Rattle.system_lists.specs.declared.fault.SystemFault.{SystemFault}
use Rattle.abr_record.specs.declared.Slot.{Slot}
use Rattle.store_model.specs.declared.replies.StageReply.{StageReply}
use Rattle.store_model.specs.declared.replies.StageReply.TheVariants as stage
use Rattle.store_model.specs.declared.replies.SealReply.TheVariants as seal
use Rattle.store_model.specs.declared.replies.ActivateReply.TheVariants as activate
use Rattle.store_model.specs.State.Phase.{Filling, Sealed, Done}
use Rattle.store_model.specs.Holding.{Held}
use Rattle.store_model.specs.HeldAfter.{held_after_stage}
use Rattle.store_model.specs.Desk.{View, held_by, Does}
use Rattle.store_model.specs.Replies.{HasLeftStage}
use Rattle.store_model.specs.Calls.{HoldsAnyStage, Stages, Seals, Activates}
use Rattle.store_model.proofs.CallsHeld.{staged, sealed, activated, left_stage}
use Rattle.lane_steps.specs.declared.hand.Hand.TheVariants as hands
use Rattle.lane_steps.specs.Hands.{Fits}
use Rattle.lane_steps.proofs.Kept.{fits_same}

claim_of_stage : (reply : StageReply) (h : Held) → (held_after_stage reply h).claim ≡ h.claim
claim_of_stage (stage.Turn slot) h = refl
claim_of_stage reply h = refl

pub free_staged : (epoch : ℕ) (reply : StageReply) (old new : View) → Stages epoch reply old new → Fits hands.Free old → Fits hands.Free new
free_staged epoch reply old new does free =
    ap (λ (h : Held). h.claim) (staged epoch reply old new does) ∙ claim_of_stage reply (held_by old) ∙ free

pub filling_staged : (epoch : ℕ) (slot : Slot) (old new : View) → Stages epoch (stage.Turn slot) old new → Fits hands.Free old → Fits hands.Filling new
filling_staged epoch slot old new does free =
    (free_staged epoch (stage.Turn slot) old new does free, ap (λ (h : Held). h.stage) (staged epoch (stage.Turn slot) old new does))

pub sealed_filled : (sys : Sys) (old new : View) → Seals sys seal.Sealed old new → Fits hands.Filling old → Fits hands.Sealed new
sealed_filled sys old new does filling =
    let after = sealed sys seal.Sealed old new does in
    (ap (λ (h : Held). h.claim) after ∙ filling.0, (sys, ap (λ (h : Held). h.stage) after))

pub filling_differs : (sys : Sys) (image : ImageKind) (got : ImageSum) (old new : View) → Seals sys (seal.Differs image got) old new → Fits hands.Filling old → Fits hands.Filling new
filling_differs sys image got old new does filling = fits_same hands.Filling old new (sealed sys (seal.Differs image got) old new does) filling

pub done_active : (slot : Slot) (old new : View) → Activates (activate.Active slot) old new → Fits hands.Sealed old → Fits hands.Done new
done_active slot old new does was =
    let after = activated (activate.Active slot) old new does in
    (ap (λ (h : Held). h.claim) after ∙ was.0, (Done, ap (λ (h : Held). h.stage) after))

pub sealed_missing : (root : Root) (old new : View) → Activates (activate.BaseMissing root) old new → Fits hands.Sealed old → Fits hands.Sealed new
sealed_missing root old new does was = fits_same hands.Sealed old new (activated (activate.BaseMissing root) old new does) was

pub sealed_no_system : (why : SystemFault) (old new : View) → Activates (activate.NotASystem why) old new → Fits hands.Sealed old → Fits hands.Sealed new
sealed_no_system why old new does was = fits_same hands.Sealed old new (activated (activate.NotASystem why) old new does) was

pub free_left : (old new : View) → Does old new HasLeftStage → (held_by old).claim ≡ None → Fits hands.Free new
free_left old new does free = ap (λ (h : Held). h.claim) (left_stage old new does) ∙ free

-- each phase of an update is one
pub any_filling : (v : View) → Fits hands.Filling v → HoldsAnyStage v
any_filling v filling = (Filling, filling.1)

pub any_sealed : (v : View) → Fits hands.Sealed v → HoldsAnyStage v
any_sealed v was = (Sealed was.1.0, was.1.1)
