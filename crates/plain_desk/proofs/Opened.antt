-- A store that has booted holds what a store holds.
use Rattle.std.proofs.Common.{◌≡◌, ℕ, Bool, true, false, eqb, List, [], ◌∷◌, refl, sym, ap, subst, ◌∙◌, arith}
use Rattle.std.proofs.lemmas.List.Elements.{All-nil, All-push}
use Rattle.abr_record.specs.declared.Slot.{Slot}
use Rattle.image_layout.specs.declared.ImageKind.TheVariants as images
use Rattle.image_layout.specs.declared.geometry.Geometry.{Geometry}
use Rattle.store_model.specs.declared.events.Act.TheVariants as acts
use Rattle.store_model.specs.declared.events.LookedAt.{LookedAt}
use Rattle.store_model.specs.State.{Standing, State, opened}
use Rattle.store_model.specs.Acts.Boot.{next_boot}
use Rattle.plain_stock.specs.Contents.{AreBytesOf}
use Rattle.plain_state.specs.Learning.{IsSettled}
use Rattle.plain_ledger.specs.Ledgers.{LedgerOf, Begins, event_by, origin_of}
use Rattle.plain_desk.specs.Memory.{AreOfMemory, IsOfMemory}
use Rattle.plain_desk.specs.Stores.{HaveRoom, IsStore, AreFilled, ImagesOf, room_of, without_fillers}

no_room : (slot : Slot) (seen : List LookedAt) (lane : ℕ) → 0 ≡ room_of lane (event_by 0 (acts.Boot slot seen) ∷ [])
no_room slot seen lane = by (eqb 0 lane) refl where
  by : (test : Bool) → eqb 0 lane ≡ test → 0 ≡ room_of lane (event_by 0 (acts.Boot slot seen) ∷ [])
  by true same = rw same refl
  by false apart = rw apart refl

roomy : (slot : Slot) (seen : List LookedAt) → HaveRoom [] (event_by 0 (acts.Boot slot seen) ∷ [])
roomy slot seen = record { rooms = λ lane. no_room slot seen lane; enough = λ lane. omega arith; short = λ lane. omega arith }

unfilled : (i : ImagesOf) → AreFilled (without_fillers i)
unfilled i images.Zbi = tt
unfilled i images.Vbmeta = tt

pub booted : {g : Geometry} {d : Standing} {slot : Slot} {seen blobs : List LookedAt} {s : State} {l : LedgerOf} (i : ImagesOf) → AreBytesOf blobs d.stock
    → IsSettled seen (next_boot (opened g d) seen) s → Begins (origin_of g d) (acts.Boot slot seen) s l → IsStore l blobs [] (without_fillers i)
booted {slot = slot} {seen = seen} {blobs = blobs} i bytes settled begins = record {
  holds = begins.holds;
  stored = subst (AreBytesOf blobs) (sym (ap (λ (x : State). x.stock) begins.state ∙ ap (λ (x : State). x.stock) settled.state.rest)) bytes;
  roomy = subst (HaveRoom []) (sym begins.history) (roomy slot seen);
  filled = unfilled i;
  unbroken = ap (λ (x : State). x.broken) begins.state ∙ ap (λ (x : State). x.broken) settled.state.rest;
  steady = subst AreOfMemory (sym begins.history) (All-push IsOfMemory [] (event_by 0 (acts.Boot slot seen)) (All-nil IsOfMemory) refl);
}
