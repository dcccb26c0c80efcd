-- The slot that a record boots is one that it needs.
use Rattle.std.proofs.Common.{arith, ◌≡◌, true, List, refl, Option, Some, None}
use Rattle.std.specs.Prelude.{IsSomeAnd}
use Rattle.abr_record.specs.declared.Slot.{Slot}
use Rattle.abr_record.specs.declared.Slot.TheVariants.{A, B, R}
use Rattle.abr_record.specs.declared.Record.{Record}
use Rattle.abr_record.specs.Boot.{boot_slot}
use Rattle.disk_model.specs.Past.{Pages}
use Rattle.image_layout.specs.declared.Sys.{Sys}
use Rattle.slot_disk.specs.Slots.{SlotsView, is_needed, HasSystem}
use Rattle.boot_core.specs.declared.looking.SeenBlob.{SeenBlob}
use Rattle.boot_core.specs.Slots.{IsWholeSystem, IsWhole, HasWholeSlots, IsRecoveryOrWhole}

pub boots_needed : (r : Record) (slot : Slot) → boot_slot r ≡ slot → is_needed r slot ≡ true
boots_needed r A is = grind arith
boots_needed r B is = grind arith
boots_needed r R is = refl

both_whole : (slots : SlotsView) (slot : Slot) (all : List SeenBlob) (image : Pages) (sys : Option Sys) → IsSomeAnd sys (λ s. HasSystem slots.geometry slot s image) → IsSomeAnd sys (λ s. IsWholeSystem all s.system) → IsSomeAnd sys (λ s. IsWhole slots.geometry slot s all image)
both_whole slots slot all image None pages whole = pages
both_whole slots slot all image (Some sys) pages whole = record { pages = pages; system = whole }

pub boots_whole : (slots : SlotsView) (all : List SeenBlob) (image : Pages) (slot : Slot) → HasWholeSlots slots all image → boot_slot slots.boot ≡ slot → IsRecoveryOrWhole slots all slot image
boots_whole slots all image A is boots =
    let needed = boots_needed slots.boot A boots in
    both_whole slots A all image slots.a (is.has.needed A needed) (is.whole A (λ e. absurd (cc e)) needed)
boots_whole slots all image B is boots =
    let needed = boots_needed slots.boot B boots in
    both_whole slots B all image slots.b (is.has.needed B needed) (is.whole B (λ e. absurd (cc e)) needed)
boots_whole slots all image R is boots = is.has.needed R refl
