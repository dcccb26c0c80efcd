use Rattle.std.proofs.Common.{◌≡◌, ◌++◌, map, take, drop}
use Rattle.plain_drafts.specs.Drafts.{added}
use Rattle.plain_drafts.proofs.drafts.add.Given as goal

abbrev pub invariant-loop-draft : goal.invariant-loop-draft
invariant-loop-draft l = l.drafts ≡ map (added l.lane l.bytes) (take l.draft-index l.fn.drafts) ++ drop l.draft-index l.fn.drafts
