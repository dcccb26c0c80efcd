use Rattle.std.proofs.Common.{sym, ◌∙◌, ap, subst}
use Rattle.abr_record.specs.declared.Slot.{Slot}
use Rattle.disk_model.proofs.Moments.{at_start}
use Rattle.slot_disk.specs.Slots.{SlotsView, with_sys, with_broken, Has, Fits}
use Rattle.slot_disk.specs.Filling.{FillingView}
use Rattle.slot_disk.proofs.SlotSteps.{header_same, seal_stays, seal_fits, broken_fits}
use Rattle.slot_disk.proofs.slots.Slots.seal.Goals as goal

pub returns-in-Some-clause-each_moment : goal.returns-in-Some-clause-each_moment
returns-in-Some-clause-each_moment g c = λ fits. at_start (Has c.args.self.now) (g.D.Disk.past c.args.disk.now) fits

pub returns-in-Ok-clause-each_moment : goal.returns-in-Ok-clause-each_moment
returns-in-Ok-clause-each_moment g c = λ fits.
    let s = c.args.self.now in
    let slot = c.args.filling.now.slot in
    let old = g.D.Disk.past c.args.disk.now in
    let new = g.D.Disk.past c.seal_slot.new.disk in
    seal_stays s slot old new c.requires.unneeded fits
    (header_same c.self.inside.geometry s.geometry c.filling.inside.slot slot old new (ap (λ (v : SlotsView). v.geometry) c.self.view_is) (ap (λ (v : FillingView). v.slot) c.filling.view_is) c.seal_slot.ensures.only)

pub returns-in-Ok-clause-fits : goal.returns-in-Ok-clause-fits
returns-in-Ok-clause-fits g c = λ fits.
    let s = c.args.self.now in
    let sys = c.args.sys.now in
    let slot = c.args.filling.now.slot in
    let old = g.D.Disk.past c.args.disk.now in
    let new = g.D.Disk.past c.seal_slot.new.disk in
    let slot_is = ap (λ (v : FillingView). v.slot) c.filling.view_is in
    let only = header_same c.self.inside.geometry s.geometry c.filling.inside.slot slot old new (ap (λ (v : SlotsView). v.geometry) c.self.view_is) slot_is c.seal_slot.ensures.only in
    let after = c.put_system.ensures ∙ ap (λ (k : Slot). with_sys k sys s) slot_is in
    subst (λ (v : SlotsView). Fits new v) (sym after) (seal_fits s slot sys old new c.requires.unneeded fits only)

pub returns-in-Err-clause-each_moment : goal.returns-in-Err-clause-each_moment
returns-in-Err-clause-each_moment g c = λ fits.
    let s = c.args.self.now in
    let slot = c.args.filling.now.slot in
    let old = g.D.Disk.past c.args.disk.now in
    let new = g.D.Disk.past c.seal_slot.new.disk in
    seal_stays s slot old new c.requires.unneeded fits
    (header_same c.self.inside.geometry s.geometry c.filling.inside.slot slot old new (ap (λ (v : SlotsView). v.geometry) c.self.view_is) (ap (λ (v : FillingView). v.slot) c.filling.view_is) c.seal_slot.ensures.only)

pub returns-in-Err-clause-fits : goal.returns-in-Err-clause-fits
returns-in-Err-clause-fits g c = λ fits.
    let s = c.args.self.now in
    let slot = c.args.filling.now.slot in
    let old = g.D.Disk.past c.args.disk.now in
    let new = g.D.Disk.past c.seal_slot.new.disk in
    let only = header_same c.self.inside.geometry s.geometry c.filling.inside.slot slot old new (ap (λ (v : SlotsView). v.geometry) c.self.view_is) (ap (λ (v : FillingView). v.slot) c.filling.view_is) c.seal_slot.ensures.only in
    subst (λ (v : SlotsView). Fits new (with_broken v)) (sym c.self.view_is) (broken_fits s slot old new c.requires.unneeded fits only)
