use Rattle.std.proofs.Common.{◌≡◌, ◌⊎◌, ℕ, ◌≤◌, take, All}
use Rattle.script_lang.specs.Scripts.{IsGreatestLane}
use Rattle.script_lang.proofs.script.Script.lanes.Given as goal

abbrev pub invariant-loop-request : goal.invariant-loop-request
invariant-loop-request l = IsGreatestLane (take l.request-index l.request-items) l.lanes
