use Rattle.std.proofs.Common.{◌<◌, length, ap, refl, arith}
use Rattle.disk_model.specs.declared.act.DiskAct.TheVariants.{Failed}
use Rattle.disk_model.specs.Disks.{Mem}
use Rattle.disk_model.proofs.KeptLemmas.{kept_act_to}
use Rattle.disk_model.proofs.mem.MemDisk.fail_write.Goals as goal

pub invariant_of-self : goal.invariant_of-self
invariant_of-self c =
    let inside : c.args.page < length c.self.inside.start.items = omega (arith, ap (λ (m : Mem). length m.past.start) c.self.view_is) in
    kept_act_to _ _ _ _ _ (Failed c.args.page c.args.bytes.now) c.self.invariant inside (record { size = c.told-bytes; bytes = c.fits-bytes }) (c.push_act.ensures.pushed c.if-push_act.true) refl
