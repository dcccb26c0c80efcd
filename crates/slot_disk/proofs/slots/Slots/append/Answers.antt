use Rattle.std.proofs.Common.{ap}
use Rattle.slot_disk.specs.Slots.{SlotsView}
use Rattle.slot_disk.specs.Filling.{FillingView}
use Rattle.slot_disk.proofs.SlotSteps.{area_same, append_stays}
use Rattle.slot_disk.proofs.slots.Slots.append.Goals as goal

pub returns-in-Ok-clause-each_moment : goal.returns-in-Ok-clause-each_moment
returns-in-Ok-clause-each_moment g c = λ fits.
    let s = c.args.self.now in
    let slot = c.args.filling.now.slot in
    let old = g.D.Disk.past c.args.disk.now in
    let new = g.D.Disk.past c.add_to.new.disk in
    append_stays s slot c.args.image old new c.requires.unneeded fits
    (area_same c.self.inside.geometry s.geometry c.filling.inside.slot slot c.args.image old new (ap (λ (v : SlotsView). v.geometry) c.self.view_is) (ap (λ (v : FillingView). v.slot) c.filling.view_is) c.add_to.ensures.only)

pub returns-in-Err-clause-each_moment : goal.returns-in-Err-clause-each_moment
returns-in-Err-clause-each_moment g c = λ fits.
    let s = c.args.self.now in
    let slot = c.args.filling.now.slot in
    let old = g.D.Disk.past c.args.disk.now in
    let new = g.D.Disk.past c.add_to.new.disk in
    append_stays s slot c.args.image old new c.requires.unneeded fits
    (area_same c.self.inside.geometry s.geometry c.filling.inside.slot slot c.args.image old new (ap (λ (v : SlotsView). v.geometry) c.self.view_is) (ap (λ (v : FillingView). v.slot) c.filling.view_is) c.add_to.ensures.only)
