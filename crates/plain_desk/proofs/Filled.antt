-- Calls on an update, as they are promised at a desk.
use Rattle.std.proofs.Common.{◌≡◌, ℕ, false, List, [], Option, Some, None, refl, sym, ap, subst, ◌∙◌}
use Rattle.std.specs.Prelude.{◌<◌, IfSome, IsSomeAnd, length}
use Rattle.image_layout.specs.declared.ImageKind.{ImageKind}
use Rattle.image_layout.specs.declared.ImageKind.TheVariants as images
use Rattle.image_layout.specs.declared.Sys.{Sys}
use Rattle.image_layout.specs.Sums.{image_sum}
use Rattle.store_model.specs.declared.events.Act.{Act}
use Rattle.store_model.specs.declared.events.Event.{Event}
use Rattle.store_model.specs.declared.events.LookedAt.{LookedAt}
use Rattle.store_model.specs.declared.replies.ActivateReply.{ActivateReply}
use Rattle.store_model.specs.declared.replies.ActivateReply.TheVariants as activate
use Rattle.store_model.specs.declared.replies.CommitReply.{CommitReply}
use Rattle.store_model.specs.declared.replies.CommitReply.TheVariants as commit
use Rattle.store_model.specs.declared.replies.SealReply.{SealReply}
use Rattle.store_model.specs.declared.replies.SealReply.TheVariants as seal
use Rattle.store_model.specs.declared.replies.StageReply.{StageReply}
use Rattle.store_model.specs.declared.replies.StageReply.TheVariants as stage
use Rattle.store_model.specs.State.{State, Stage, Phase, IsStageOf}
use Rattle.store_model.specs.State.Phase.{Sealed}
use Rattle.store_model.specs.Acts.LeftStage.{IsDueLeftStage}
use Rattle.store_model.specs.Footprints.{footprint_of}
use Rattle.store_model.specs.Desk.{View, Fillers, Does, Keeps, filler_of, no_fillers}
use Rattle.store_model.specs.Desk.Keeping.{Blob, Image}
use Rattle.store_model.specs.Replies.{IsActivated, IsCommitted, IsSealed, IsStaged}
use Rattle.store_model.specs.Calls.{Activates, Commits, Seals, Stages, KeepsAtSeal, KeepsAtStage, HasByteOf, HoldsAnyStage, HoldsSealed, HoldsStage}
use Rattle.store_model.proofs.Frames.{keeps_next}
use Rattle.plain_state.specs.Holdings.{sealed_in}
use Rattle.plain_ledger.specs.Ledgers.{LedgerOf, Agrees, Notes, Tells, event_by, next_number}
use Rattle.plain_desk.specs.Memory.{InMemory}
use Rattle.plain_desk.specs.Stores.{AreFilled, DraftOf, ImagesOf, StoreOf, IsStore, image_of, kept_for, view_of}
use Rattle.plain_desk.specs.Filling.{IsSealedOf, StagedBy, images_at_stage}
use Rattle.plain_desk.proofs.Stores.{Moves, handles, here, moved, rests, stays_moves, store_of, tells, tells_moves, told, view_at}

-- ---- the reply tells the event

pub activates : (reply : ActivateReply) (old new : View) → Does old new (IsActivated reply) → Activates reply old new
activates activate.NoMemory old new d = absurd d.its
activates reply old new d = d

pub commits : (reply : CommitReply) (old new : View) → Does old new (IsCommitted reply) → Commits reply old new
commits commit.NoMemory old new d = absurd d.its
commits reply old new d = d

pub seals : (sys : Sys) (reply : SealReply) (old new : View) → Does old new (IsSealed sys reply) → Seals sys reply old new
seals sys seal.NoMemory old new d = absurd d.its
seals sys reply old new d = d

-- an event that changes neither what is stored nor what is claimed
pub framed : {old new : LedgerOf} {lane : ℕ} {act : Act} (IsIts : ℕ → Event → Type 0) → (footprint_of act).stock ≡ false
    → (footprint_of act).claims ≡ false → Notes old lane act new → IsIts (next_number old) (event_by lane act)
    → Tells lane IsIts old new
framed {old} {new} {lane} {act} IsIts stock claims n its =
    let k = keeps_next old.state (next_number old) lane act in
    told n its (k.stock stock) (k.claims claims)

-- ---- what a lane has to hold

-- the lane's update is in the phase that the lane knows of
pub held_phase : {l : LedgerOf} {lane : ℕ} {phase : Phase} {drafts : List DraftOf} {i : ImagesOf} {was : StoreOf} → store_of l drafts i ≡ was → Agrees l
    → HoldsStage (view_of [] lane was) phase → IsStageOf l.state lane phase
held_phase {l} {lane} {phase} is a holds = (handles l lane a).stage phase (here l (λ (s : StoreOf). HoldsStage (view_of [] lane s) phase) is holds)

pub held_sealed : {l : LedgerOf} {lane : ℕ} {drafts : List DraftOf} {i : ImagesOf} {was : StoreOf} → store_of l drafts i ≡ was → Agrees l
    → HoldsSealed (view_of [] lane was) → (sys : Sys) × IsStageOf l.state lane (Sealed sys)
held_sealed is a holds = (holds.0, held_phase is a holds.1)

stage_there : (o : Option Stage) (lane : ℕ) (phase : Phase) → o ≡ Some (record { lane = lane; phase = phase }) → IsSomeAnd o (λ (stage : Stage). stage.lane ≡ lane)
stage_there o lane phase is = subst (λ (x : Option Stage). IsSomeAnd x (λ (stage : Stage). stage.lane ≡ lane)) (sym is) refl

pub held_stage : {l : LedgerOf} {drafts : List DraftOf} {i : ImagesOf} {was : StoreOf} (lane : ℕ) → store_of l drafts i ≡ was → Agrees l
    → HoldsAnyStage (view_of [] lane was) → IsDueLeftStage l.state lane
held_stage {l} lane is a holds = stage_there l.state.stage lane holds.0 (held_phase is a holds.1)

sealed_there : (o : Option Stage) (lane : ℕ) (sys other : Sys) → o ≡ Some (record { lane = lane; phase = Sealed sys })
    → Some other ≡ sealed_in o → o ≡ Some (record { lane = lane; phase = Sealed other })
sealed_there o lane sys other is found =
    let same : Some other ≡ Some sys = found ∙ ap sealed_in is in
    let own : sys ≡ other = cc in
    is ∙ ap (λ (x : Sys). Some (record { lane = lane; phase = Sealed x })) own

-- the system that is sealed
pub sealed_as : (s : State) (lane : ℕ) (other : Sys) → (sys : Sys) × IsStageOf s lane (Sealed sys)
    → Some other ≡ sealed_in s.stage → IsStageOf s lane (Sealed other)
sealed_as s lane other there found = sealed_there s.stage lane there.0 other there.1 found

pub some_sealed : (s : State) (lane : ℕ) → (sys : Sys) × IsStageOf s lane (Sealed sys) → None ≡ sealed_in s.stage → ⊥
some_sealed s lane there none =
    let clash : ◌≡◌ {A = Option Sys} None (Some there.0) = none ∙ ap sealed_in there.1 in
    absurd cc

-- ---- an update begins

none_filled : (image : ImageKind) → IfSome (filler_of no_fillers image)
    (λ root. (place : ℕ) → place < length (image_of (record { zbi = []; vbmeta = []; fillers = no_fillers }) image)
    → HasByteOf root (image_of (record { zbi = []; vbmeta = []; fillers = no_fillers }) image) place)
none_filled images.Zbi = tt
none_filled images.Vbmeta = tt

filled_at : (reply : StageReply) (i : ImagesOf) → AreFilled i → AreFilled (images_at_stage reply i)
filled_at (stage.Turn slot) i filled = none_filled
filled_at reply i filled = filled

stage_moves : {old new : LedgerOf} (lane epoch : ℕ) (reply : StageReply) → Agrees old → StagedBy lane epoch reply old new → Moves old new
stage_moves lane epoch stage.NoMemory a s = stays_moves s
stage_moves lane epoch reply a t = tells_moves a t

pub staged : {old new : LedgerOf} {blobs : List LookedAt} {drafts : List DraftOf} {i i2 : ImagesOf} (lane epoch : ℕ) (reply : StageReply)
    → IsStore old blobs drafts i → StagedBy lane epoch reply old new → i2 ≡ images_at_stage reply i → IsStore new blobs drafts i2
staged {i = i} lane epoch reply is by left =
    let now = moved is (stage_moves lane epoch reply is.holds by) in
    record {
      holds = now.holds;
      stored = now.stored;
      roomy = now.roomy;
      filled = subst AreFilled (sym left) (filled_at reply i now.filled);
      unbroken = now.unbroken;
      steady = now.steady;
    }

pub stages : {drafts : List DraftOf} {i : ImagesOf} {was : StoreOf} (tie : List ℕ) (lane epoch : ℕ) (reply : StageReply) (old new : LedgerOf) (fillers : Fillers)
    → store_of old drafts i ≡ was → StagedBy lane epoch reply old new → Stages epoch reply (view_of tie lane was) (view_at tie lane new fillers)
stages tie lane epoch stage.NoMemory old new fillers is s = rests is s
stages tie lane epoch reply old new fillers is t = tells (IsStaged epoch reply) is t

-- what is kept doesn't rest on the ledger
keeps : (lane : ℕ) (i : ImagesOf) (l new : LedgerOf) (drafts : List DraftOf) → Keeps (kept_for lane (store_of l drafts i)) (kept_for lane (store_of new drafts i))
keeps lane i l new drafts Blob bytes is = is
keeps lane i l new drafts (Image image) bytes is = is

kept_at : (lane : ℕ) (reply : StageReply) (i : ImagesOf) (l new : LedgerOf) (drafts : List DraftOf)
    → KeepsAtStage reply (kept_for lane (store_of l drafts i)) (kept_for lane (store_of new drafts (images_at_stage reply i)))
kept_at lane (stage.Turn slot) i l new drafts = (λ bytes is. is, refl, refl)
kept_at lane reply i l new drafts = keeps lane i l new drafts

pub stage_keeps : {drafts : List DraftOf} {i i2 : ImagesOf} {was : StoreOf} (lane : ℕ) (reply : StageReply) (l new : LedgerOf) → store_of l drafts i ≡ was
    → i2 ≡ images_at_stage reply i → KeepsAtStage reply (kept_for lane was) (kept_for lane (store_of new drafts i2))
stage_keeps {drafts} {i} {i2} lane reply l new is left =
    subst (λ (s : StoreOf). KeepsAtStage reply (kept_for lane s) (kept_for lane (store_of new drafts i2))) is
    (subst (λ (x : ImagesOf). KeepsAtStage reply (kept_for lane (store_of l drafts i)) (kept_for lane (store_of new drafts x))) (sym left)
    (kept_at lane reply i l new drafts))

-- ---- an update is sealed

seal_kept : (lane : ℕ) (sys : Sys) (reply : SealReply) (i : ImagesOf) (l new : LedgerOf) (drafts : List DraftOf) → IsSealedOf sys i reply
    → KeepsAtSeal sys reply (kept_for lane (store_of l drafts i)) (kept_for lane (store_of new drafts i))
seal_kept lane sys seal.Sealed i l new drafts sums =
    (λ bytes is. is, (λ bytes is. ap image_sum is ∙ sums.0), (λ bytes is. ap image_sum is ∙ sums.1))
seal_kept lane sys (seal.Differs images.Zbi got) i l new drafts d = (keeps lane i l new drafts, tt, (λ bytes is. ap image_sum is ∙ d.sum))
seal_kept lane sys (seal.Differs images.Vbmeta got) i l new drafts d =
    (keeps lane i l new drafts, (λ bytes is. ap image_sum is ∙ d.before), (λ bytes is. ap image_sum is ∙ d.sum))
seal_kept lane sys (seal.Broken broken) i l new drafts none = absurd none
seal_kept lane sys seal.NoMemory i l new drafts none = absurd none

pub seal_keeps : {drafts : List DraftOf} {i : ImagesOf} {was : StoreOf} (lane : ℕ) (sys : Sys) (reply : SealReply) (l new : LedgerOf) → store_of l drafts i ≡ was
    → IsSealedOf sys i reply → KeepsAtSeal sys reply (kept_for lane was) (kept_for lane (store_of new drafts i))
seal_keeps {drafts} {i} lane sys reply l new is sums =
    subst (λ (s : StoreOf). KeepsAtSeal sys reply (kept_for lane s) (kept_for lane (store_of new drafts i))) is
    (seal_kept lane sys reply i l new drafts sums)

-- what was kept is kept, whatever the ledger is
pub all_kept : {drafts : List DraftOf} {i : ImagesOf} {was : StoreOf} (lane : ℕ) (l new : LedgerOf) → store_of l drafts i ≡ was
    → Keeps (kept_for lane was) (kept_for lane (store_of new drafts i))
all_kept {drafts} {i} lane l new is = subst (λ (s : StoreOf). Keeps (kept_for lane s) (kept_for lane (store_of new drafts i))) is (keeps lane i l new drafts)

-- ---- the event of `stage`

pub staged_by : (lane epoch : ℕ) (reply : StageReply) (old new : LedgerOf) → Tells lane (InMemory (IsStaged epoch reply)) old new → StagedBy lane epoch reply old new
staged_by lane epoch stage.NoMemory old new t = absurd t.its.its
staged_by lane epoch reply old new t = t
