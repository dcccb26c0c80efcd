use Rattle.std.proofs.Common.{◌≡◌, ◌++◌, map, take, drop}
use Rattle.fetch_queue.specs.Fetches.{marked}
use Rattle.fetch_queue.proofs.queue.put_mark.Given as goal

abbrev pub invariant-loop-mark : goal.invariant-loop-mark
invariant-loop-mark l = l.marks ≡ map (marked l.ticket l.end) (take l.mark-index l.fn.marks) ++ drop l.mark-index l.fn.marks
