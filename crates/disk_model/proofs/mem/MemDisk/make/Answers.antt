use Rattle.std.proofs.Common.{arith}
use Rattle.disk_model.proofs.KeptLemmas.{kept_zero}
use Rattle.disk_model.proofs.mem.MemDisk.make.Goals as goal

pub invariant_of-result : goal.invariant_of-result
invariant_of-result c = kept_zero _ _ _ c.args.pages (omega arith) c.in_ok-start.ensures c.in_ok-current.ensures c.new.ensures.items
