use Rattle.std.proofs.Common.{arith, length-take}
use Rattle.pkg_tool.proofs.Feeding.{fed_more}
use Rattle.pkg_tool.proofs.hashing.root_of_file.Goals as goal

pub loop-preserved : goal.loop-preserved
loop-preserved g c = record {
  fed = fed_more _ _ _ _ c.in-Ok.count _ _ c.loop.invariant.fed c.in-Ok.ensures.took c.in-Ok-update.ensures.ok;
  grows = let some = c.if-count-eq0.false in let within = c.in-Ok.ensures.within in let long = length-take c.in-Ok.count c.take.new.out in omega (arith, c.loop.invariant.grows, c.in-Ok-update.ensures.count, c.take.auto.out);
  faults = omega (arith, c.loop.invariant.faults, c.take.ensures.faults);
}
