use Rattle.std.proofs.Common.{◌≡◌, drop}
use Rattle.system_lists.specs.Judging.{Verdict, first_of, base_faults}
use Rattle.system_judge.proofs.judging.base_fault.Given as goal

-- the packages before this one are as they should be
abbrev pub invariant-loop-pair : goal.invariant-loop-pair
invariant-loop-pair g l =
    (rest : Verdict) → first_of (base_faults (g.E.Evidence.at_hand l.evidence) l.base) rest ≡ first_of (base_faults (g.E.Evidence.at_hand l.evidence) (drop l.pair-index l.base)) rest
