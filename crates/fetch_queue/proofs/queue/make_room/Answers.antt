use Rattle.std.proofs.Common.{arith}
use Rattle.std.proofs.lemmas.Grind.{common_steps}
use Rattle.std.proofs.lemmas.List.Edits.{map_over_more}
use Rattle.fetch_queue.specs.Fetches.{roomed}
use Rattle.fetch_queue.proofs.queue.make_room.Goals as goal

pub loop-claim-preserved : goal.loop-claim-preserved
loop-claim-preserved c = grind (arith, common_steps, map_over_more (roomed c.args.root.now c.args.len))
