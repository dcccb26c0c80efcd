use Rattle.std.proofs.Common.{take}
use Rattle.plain_state.specs.Learning.{Forgets}
use Rattle.plain_state.proofs.state.State.forget_each.Given as goal

-- the packages before this one are forgotten
abbrev pub invariant-loop-root : goal.invariant-loop-root
invariant-loop-root l = Forgets (take l.root-index l.roots) l.initial.self l.self
