use Rattle.std.proofs.Common.{sym, subst}
use Rattle.disk_model.proofs.Moments.{each_weaker}
use Rattle.slot_disk.specs.Slots.{SlotsView, with_boot, HasRecord, Has, Fits}
use Rattle.slot_disk.proofs.SlotSteps.{record_views, record_fits}
use Rattle.slot_disk.proofs.slots.Slots.set_record.Goals as goal

pub returns-in-Ok-clause-each_moment : goal.returns-in-Ok-clause-each_moment
returns-in-Ok-clause-each_moment g c = λ fits needed.
    let s = c.args.self.now in
    let old = g.D.Disk.past c.args.disk.now in
    let new = g.D.Disk.past c.settle_record.new.disk in
    record_views s c.args.value.now old new c.settle_record.ensures.only fits needed
    (c.settle_record.ensures.each_moment s.boot (each_weaker (Has s) (HasRecord s.boot) old (λ image has. has.boot) fits))

pub returns-in-Ok-clause-done : goal.returns-in-Ok-clause-done
returns-in-Ok-clause-done g c = λ done needed.
    let s = c.args.self.now in
    let value = c.args.value.now in
    let old = g.D.Disk.past c.args.disk.now in
    let new = g.D.Disk.past c.settle_record.new.disk in
    subst (λ (v : SlotsView). Fits new (with_boot value v)) (sym c.self.view_is) (record_fits s value old new c.settle_record.ensures.only needed c.in-Ok.ensures.done)

pub returns-in-Err-clause-each_moment : goal.returns-in-Err-clause-each_moment
returns-in-Err-clause-each_moment g c = λ fits needed.
    let s = c.args.self.now in
    let old = g.D.Disk.past c.args.disk.now in
    let new = g.D.Disk.past c.settle_record.new.disk in
    record_views s c.args.value.now old new c.settle_record.ensures.only fits needed
    (c.settle_record.ensures.each_moment s.boot (each_weaker (Has s) (HasRecord s.boot) old (λ image has. has.boot) fits))
