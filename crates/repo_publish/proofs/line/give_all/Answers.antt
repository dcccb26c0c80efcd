use Rattle.std.proofs.Common.{arith, rules}
use Rattle.std.proofs.lemmas.List.{places}
use Rattle.repo_publish.proofs.Outputs.{wrote_on}
use Rattle.repo_publish.proofs.line.give_all.Goals as goal

pub loop-done-preserved : goal.loop-done-preserved
loop-done-preserved g c = record {
  within = search (rules, places);
  so_far = wrote_on _ _ _ c.args.bytes.now c.loop-done.done c.in_ok-done.field-0 c.loop-done.invariant.so_far c.in_ok-done.ensures.gave;
  faults = omega (arith, c.loop-done.invariant.faults, c.give.ensures.faults);
}
