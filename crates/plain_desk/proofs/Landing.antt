-- A landing, as a call at a desk.
use Rattle.std.proofs.Common.{◌≡◌, ℕ, List, [], ◌∷◌, length, Option, Some, None, refl, sym, ap, subst, arith, ◌∙◌}
use Rattle.std.specs.Prelude.{◌⊎◌, Result, Ok, Err, IfOk, OnErr}
use Rattle.pkg_names.specs.declared.root.Root.{Root}
use Rattle.fetch_queue.specs.declared.FetchEnd.{FetchEnd}
use Rattle.store_model.specs.declared.events.Act.TheVariants as acts
use Rattle.store_model.specs.declared.events.LookedAt.{LookedAt}
use Rattle.store_model.specs.declared.replies.LandReply.TheVariants as land
use Rattle.store_model.specs.Desk.{Fillers, Does}
use Rattle.store_model.specs.Replies.{IsLanded}
use Rattle.store_model.specs.Calls.{IsLandedWith, room_by}
use Rattle.plain_stock.specs.Contents.{AreBytesOf}
use Rattle.plain_ledger.specs.Ledgers.{LedgerOf, Notes, Stays}
use Rattle.plain_desk.specs.Stores.{DraftOf, Drafted, HasLanded, HaveRoom, ImagesOf, IsLandedAs, IsStore, StoreOf, draft_of, kept_for, room_in, view_of}
use Rattle.plain_desk.proofs.Stores.{does_at, drafted, moved, stays_moves, store_of, view_at}

pub land_made : {E : Type 0} {old new : LedgerOf} (lane : ℕ) (root : Root) (len : ℕ) (bytes : List ℕ) {blobs blobs' : List LookedAt}
    {drafts drafts' : List DraftOf} {images : ImagesOf} (r : Result (Option FetchEnd) E) → IsStore old blobs drafts images
    → IfOk r (λ end. IsLandedAs lane root len bytes end old new) → OnErr r (Stays old new)
    → IfOk r (λ end. Drafted lane 0 [] drafts drafts') → OnErr r (drafts' ≡ drafts) → AreBytesOf blobs' new.state.stock
    → IsStore new blobs' drafts' images
land_made lane root len bytes (Ok None) is ok err ended kept stored = drafted is ok.2.notes stored ended refl (omega arith) (omega arith) refl
land_made lane root len bytes (Ok (Some end)) is ok err ended kept stored = drafted is ok.1 stored ended refl (omega arith) (omega arith) refl
land_made {E} {old} {new} lane root len bytes {blobs} {blobs'} {drafts} {drafts'} {images} (Err e) is ok err ended kept stored =
    let m = moved is (stays_moves err) in
    subst (λ (ds : List DraftOf). IsStore new blobs' ds images) (sym kept)
    (record { holds = m.holds; stored = stored; roomy = m.roomy; filled = m.filled; unbroken = m.unbroken; steady = m.steady })

pub landed : {tie : List ℕ} {lane : ℕ} {old new : LedgerOf} (root : Root) {drafts : List DraftOf} {images : ImagesOf} {fillers : Fillers}
    {was : StoreOf} → store_of old drafts images ≡ was → HaveRoom drafts old.history
    → length (draft_of drafts lane) ≡ room_in drafts lane → HasLanded lane root (draft_of drafts lane) old new
    → Does (view_of tie lane was) (view_at tie lane new fillers) (IsLandedWith root (room_by (view_of tie lane was)) (kept_for lane was))
landed {tie} {lane} {old} {new} root {drafts} {images} {fillers} is have full h =
    subst (λ (s : StoreOf). Does (view_of tie lane s) (view_at tie lane new fillers) (IsLandedWith root (room_by (view_of tie lane s)) (kept_for lane s))) is
    (does_at tie images.fillers fillers (IsLandedWith root (room_by (view_of tie lane (store_of old drafts images))) (kept_for lane (store_of old drafts images)))
    h.notes (
      h.seen,
      (ap (λ (n : ℕ). acts.Land root n None h.seen) (full ∙ have.rooms lane), refl),
      λ bytes same. subst (λ (b : List ℕ). (h.seen ≡ []) ⊎ (h.seen ≡ record { root = root; bytes = b } ∷ [])) (sym same) h.carries,
    ))

pub landing_ended : {tie : List ℕ} {lane : ℕ} {old new : LedgerOf} (root : Root) (end : FetchEnd) {drafts : List DraftOf} {images : ImagesOf} {fillers : Fillers}
    {was : StoreOf} → store_of old drafts images ≡ was → HaveRoom drafts old.history
    → Notes old lane (acts.Land root (room_in drafts lane) (Some end) []) new
    → Does (view_of tie lane was) (view_at tie lane new fillers) (IsLanded root (room_by (view_of tie lane was)) (land.Ended end))
landing_ended {tie} {lane} {old} {new} root end {drafts} {images} {fillers} is have n =
    subst (λ (s : StoreOf). Does (view_of tie lane s) (view_at tie lane new fillers) (IsLanded root (room_by (view_of tie lane s)) (land.Ended end))) is
    (does_at tie images.fillers fillers (IsLanded root (room_by (view_of tie lane (store_of old drafts images))) (land.Ended end))
    n (ap (λ (len : ℕ). acts.Land root len (Some end) []) (have.rooms lane), refl))

pub stored_as : (lane : ℕ) (root : Root) (len : ℕ) (bytes : List ℕ) {a b : Option FetchEnd} (old new : LedgerOf) → a ≡ b
    → IsLandedAs lane root len bytes a old new → IsLandedAs lane root len bytes b old new
stored_as lane root len bytes old new is so = subst (λ (end : Option FetchEnd). IsLandedAs lane root len bytes end old new) is so
