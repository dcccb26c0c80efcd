use Rattle.std.proofs.Common.{take}
use Rattle.plain_state.specs.Learning.{Forgets}
use Rattle.plain_state.specs.Looking.{roots_seen}
use Rattle.plain_state.proofs.state.State.forget_seen.Given as goal

-- the blobs before this one are forgotten
abbrev pub invariant-loop-pair : goal.invariant-loop-pair
invariant-loop-pair l = Forgets (roots_seen (take l.pair-index l.seen)) l.initial.self l.self
