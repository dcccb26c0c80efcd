use Rattle.std.proofs.Common.{◌≡◌, ℕ, ◌+◌, subst, arith}
use Rattle.disk_model.specs.Images.{SettlesOthers, IsInRow, IsSettled}
use Rattle.slot_disk.specs.Areas.{header_page}
use Rattle.slot_disk.proofs.WriteSteps.{seal_done}
use Rattle.slot_disk.proofs.write.seal_slot.Goals as goal

pub returns-clause-sealed : goal.returns-clause-sealed
returns-clause-sealed g c = λ images are filled.
    let new = g.D.Disk.past c.settle_pages.new.disk in
    let old = g.D.Disk.past c.args.disk.now in
    let at : c.slot_start.result + 0 ≡ header_page c.args.geometry.now c.args.slot = omega (arith, c.slot_start.ensures) in
    seal_done c.args.geometry.now c.args.slot c.args.sys.now images c.write_header-header.result (g.D.Disk.pages c.args.disk.now) old new c.requires.room c.write_header-header.ensures.names are filled
    (subst (λ (n : ℕ). SettlesOthers old new (IsInRow n 1) (g.D.Disk.pages c.args.disk.now)) c.slot_start.ensures c.in_ok-settle_pages.ensures.others)
    (subst (λ (n : ℕ). IsSettled new n c.write_header-header.result) at (c.in_ok-settle_pages.ensures.settled 0 (omega arith)))
