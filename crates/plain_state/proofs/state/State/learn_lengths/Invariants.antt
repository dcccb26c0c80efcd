use Rattle.std.proofs.Common.{take}
use Rattle.plain_state.specs.Learning.{LearnsLengths}
use Rattle.plain_state.proofs.state.State.learn_lengths.Given as goal

-- the lengths of the packages before this one are known
abbrev pub invariant-loop-root : goal.invariant-loop-root
invariant-loop-root l = LearnsLengths (take l.root-index l.roots) l.initial.self l.self
