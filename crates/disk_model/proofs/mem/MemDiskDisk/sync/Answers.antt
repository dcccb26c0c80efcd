use Rattle.std.proofs.Common.{refl}
use Rattle.disk_model.specs.declared.act.DiskAct.TheVariants.{Synced}
use Rattle.disk_model.proofs.KeptLemmas.{kept_act_to}
use Rattle.disk_model.proofs.mem.MemDiskDisk.sync.Goals as goal

pub invariant_of-self-else-not-push_act : goal.invariant_of-self-else-not-push_act
invariant_of-self-else-not-push_act c = kept_act_to _ _ _ _ _ Synced c.self.invariant tt tt (c.push_act.ensures.pushed c.if-not-push_act.false) refl
