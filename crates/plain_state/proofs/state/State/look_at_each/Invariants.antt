use Rattle.std.proofs.Common.{take}
use Rattle.plain_state.specs.Looking.{Sees, AreAmong, AreLearned}
use Rattle.plain_state.proofs.state.State.look_at_each.Given as goal

-- the packages before this one were looked at
abbrev pub invariant-loop-root : goal.invariant-loop-root
invariant-loop-root l = record {
  sees : Sees l.contents l.initial.seen.items l.seen.items l.initial.self l.self;
  among : AreAmong (take l.root-index l.roots) l.initial.seen.items l.seen.items;
  learned : AreLearned l.contents (take l.root-index l.roots) l.self;
}
