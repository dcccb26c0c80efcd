use Rattle.std.proofs.Common.{arith}
use Rattle.std.proofs.lemmas.Grind.{common_steps}
use Rattle.std.proofs.lemmas.List.Edits.{map_over_more}
use Rattle.plain_drafts.specs.Drafts.{added}
use Rattle.plain_drafts.proofs.drafts.add.Goals as goal

pub loop-draft-preserved : goal.loop-draft-preserved
loop-draft-preserved c = grind (arith, common_steps, map_over_more (added c.args.lane c.args.bytes.now))
