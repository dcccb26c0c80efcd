-- What a judgement says, as a verdict.
use Rattle.std.specs.Prelude.{◌≡◌, List, Option, Some, None, Result, Ok, Err}
use Rattle.pkg_names.specs.declared.pinned.Pinned.{Pinned}
use Rattle.system_lists.specs.declared.fault.SystemFault.{SystemFault}
use Rattle.system_lists.specs.Judging.{Verdict}
use Rattle.system_lists.specs.Judging.Verdict.{Missing as as_missing, Faulty as as_faulty, Unread as as_unread, Whole as as_whole}
use Rattle.system_judge.specs.declared.judging.Judgement.{Judgement}
use Rattle.system_judge.specs.declared.judging.Judgement.TheVariants.{Missing, Faulty, Unread, Whole}

abbrev pub verdict_of : Judgement → Verdict
verdict_of (Missing root) = as_missing root
verdict_of (Faulty why) = as_faulty why
verdict_of (Unread root) = as_unread root
verdict_of (Whole base cached) = as_whole base cached

-- the first of two that is wrong
abbrev pub or_verdict : Option Verdict → Verdict → Verdict
or_verdict (Some verdict) rest = verdict
or_verdict None rest = rest

-- the list, or what is wrong with it, or else it can't be told for want of memory
abbrev pub IsList : Result (List Pinned) SystemFault → Result (List Pinned) (Option SystemFault) → Type 0
IsList list (Ok found) = list ≡ Ok found
IsList list (Err (Some fault)) = list ≡ Err fault
IsList list (Err None) = Unit {0}
