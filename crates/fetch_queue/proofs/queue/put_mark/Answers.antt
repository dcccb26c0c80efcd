use Rattle.std.proofs.Common.{arith}
use Rattle.std.proofs.lemmas.Grind.{common_steps}
use Rattle.std.proofs.lemmas.List.Edits.{map_over_more}
use Rattle.fetch_queue.specs.Fetches.{marked}
use Rattle.fetch_queue.proofs.queue.put_mark.Goals as goal

pub loop-mark-preserved : goal.loop-mark-preserved
loop-mark-preserved c = grind (arith, common_steps, map_over_more (marked c.args.ticket c.args.end))
