use Rattle.std.proofs.Common.{◌<◌, length, ap, refl, arith}
use Rattle.disk_model.specs.declared.act.DiskAct.TheVariants.{Wrote}
use Rattle.disk_model.specs.Disks.{Mem}
use Rattle.disk_model.proofs.KeptLemmas.{kept_length, kept_act_to}
use Rattle.disk_model.proofs.mem.MemDiskDisk.write.Goals as goal

pub index_mut-requires : goal.index_mut-requires
index_mut-requires c = omega (arith, kept_length _ _ c.self.invariant, ap (λ (m : Mem). length m.past.start) c.self.view_is, c.self.inside.current.ok.0)

pub invariant_of-self-2 : goal.invariant_of-self-2
invariant_of-self-2 c =
    let inside : c.args.page < length c.self.inside.start.items = omega (arith, ap (λ (m : Mem). length m.past.start) c.self.view_is) in
    kept_act_to _ _ _ _ _ (Wrote c.args.page c.args.bytes.now) c.self.invariant inside (record { size = c.told-bytes; bytes = c.fits-bytes }) (c.push_act.ensures.pushed (c.if-not-push_act.false)) refl

pub returns-clause-told : goal.returns-clause-told
returns-clause-told c = (invariant_of-self-2 c).told
