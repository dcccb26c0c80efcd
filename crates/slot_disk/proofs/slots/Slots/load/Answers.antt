use Rattle.std.proofs.Common.{Option, sym, subst}
use Rattle.disk_model.specs.Past.{Past}
use Rattle.slot_disk.specs.Slots.{Fits}
use Rattle.slot_disk.specs.Steps.{loaded_view}
use Rattle.slot_disk.proofs.Standing.{each_from_some}
use Rattle.slot_disk.proofs.slots.Slots.load.Goals as goal

pub returns-clause-fits : goal.returns-clause-fits
returns-clause-fits g c = λ one.
    let view = loaded_view c.args.geometry.now c.in_ok-parts.parts in
    subst (λ (t : Option Past). Fits t view) (sym c.load_parts.ensures.past_stays) (each_from_some view (g.D.Disk.past c.args.disk.now) one c.in_ok-parts.ensures.slots)
