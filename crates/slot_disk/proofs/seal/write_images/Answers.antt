use Rattle.std.proofs.Common.{sym, subst}
use Rattle.abr_record.specs.declared.Slot.TheVariants.{R}
use Rattle.disk_model.specs.Images.{EachImage}
use Rattle.disk_model.proofs.Regions.{writes_then}
use Rattle.image_layout.specs.declared.ImageKind.TheVariants.{Zbi, Vbmeta}
use Rattle.image_layout.specs.declared.Sys.{Sys}
use Rattle.image_layout.specs.Geometry.{IsIn, slot_region}
use Rattle.slot_disk.specs.Slots.{HasSystem}
use Rattle.slot_disk.specs.Filling.{no_images, with_piece}
use Rattle.slot_disk.proofs.WriteSteps.{none_filled, area_wider, header_wider}
use Rattle.slot_disk.proofs.SlotSteps.{recovery_is}
use Rattle.slot_disk.proofs.seal.write_images.Goals as goal

pub returns-in_err-add_to-2-clause-only : goal.returns-in_err-add_to-2-clause-only
returns-in_err-add_to-2-clause-only g c =
    let past = g.D.Disk.past in
    let geometry = c.args.geometry.now in
    writes_then (IsIn (slot_region geometry R)) (past c.args.disk.now) (past c.add_to.new.disk) (past c.add_to-2.new.disk)
    (area_wider geometry R Zbi (past c.args.disk.now) (past c.add_to.new.disk) c.add_to.ensures.only)
    (area_wider geometry R Vbmeta (past c.add_to.new.disk) (past c.add_to-2.new.disk) c.add_to-2.ensures.only)

pub returns-in_err-seal_slot-clause-only : goal.returns-in_err-seal_slot-clause-only
returns-in_err-seal_slot-clause-only g c =
    let past = g.D.Disk.past in
    let geometry = c.args.geometry.now in
    let region = IsIn (slot_region geometry R) in
    writes_then region (past c.args.disk.now) (past c.add_to-2.new.disk) (past c.seal_slot.new.disk)
    (writes_then region (past c.args.disk.now) (past c.add_to.new.disk) (past c.add_to-2.new.disk)
    (area_wider geometry R Zbi (past c.args.disk.now) (past c.add_to.new.disk) c.add_to.ensures.only)
    (area_wider geometry R Vbmeta (past c.add_to.new.disk) (past c.add_to-2.new.disk) c.add_to-2.ensures.only))
    (header_wider geometry R (past c.add_to-2.new.disk) (past c.seal_slot.new.disk) c.seal_slot.ensures.only)

pub returns-clause-system : goal.returns-clause-system
returns-clause-system g c =
    let zbi = c.args.zbi.now in
    let vbmeta = c.args.vbmeta.now in
    let one = c.in_ok-add_to.ensures.stands no_images c.new-parts.ensures in
    let both = c.in_ok-add_to-2.ensures.stands (with_piece Zbi zbi no_images) one in
    recovery_is zbi vbmeta c.sum-zbi_sum.result c.sum-vbmeta_sum.result (c.sum-zbi_sum.ensures zbi both.zbi) (c.sum-vbmeta_sum.ensures vbmeta both.vbmeta)

pub returns-clause-done : goal.returns-clause-done
returns-clause-done g c =
    let past = g.D.Disk.past in
    let geometry = c.args.geometry.now in
    let zbi = c.args.zbi.now in
    let vbmeta = c.args.vbmeta.now in
    let first = with_piece Zbi zbi no_images in
    let images = with_piece Vbmeta vbmeta first in
    let one = c.in_ok-add_to.ensures.stands no_images c.new-parts.ensures in
    let both = c.in_ok-add_to-2.ensures.stands first one in
    let zbi_is = c.sum-zbi_sum.ensures zbi both.zbi in
    let vbmeta_is = c.sum-vbmeta_sum.ensures vbmeta both.vbmeta in
    let begun = c.in_ok-add_to.ensures.filled no_images c.new-parts.ensures (none_filled (past c.args.disk.now) geometry R) in
    let filled = c.in_ok-add_to-2.ensures.filled first one begun in
    subst (λ (s : Sys). EachImage (past c.seal_slot.new.disk) (HasSystem geometry R s)) (recovery_is zbi vbmeta c.sum-zbi_sum.result c.sum-vbmeta_sum.result zbi_is vbmeta_is)
    (c.in_ok-seal_slot.ensures.sealed images (record { zbi = sym zbi_is; vbmeta = sym vbmeta_is }) filled)

pub returns-clause-only : goal.returns-clause-only
returns-clause-only g c =
    let past = g.D.Disk.past in
    let geometry = c.args.geometry.now in
    let region = IsIn (slot_region geometry R) in
    writes_then region (past c.args.disk.now) (past c.add_to-2.new.disk) (past c.seal_slot.new.disk)
    (writes_then region (past c.args.disk.now) (past c.add_to.new.disk) (past c.add_to-2.new.disk)
    (area_wider geometry R Zbi (past c.args.disk.now) (past c.add_to.new.disk) c.add_to.ensures.only)
    (area_wider geometry R Vbmeta (past c.add_to.new.disk) (past c.add_to-2.new.disk) c.add_to-2.ensures.only))
    (header_wider geometry R (past c.add_to-2.new.disk) (past c.seal_slot.new.disk) c.seal_slot.ensures.only)
