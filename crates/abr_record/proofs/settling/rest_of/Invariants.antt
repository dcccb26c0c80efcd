use Rattle.abr_record.proofs.SettlingLemmas.{changes_left, IsOnTheWay}
use Rattle.abr_record.proofs.settling.rest_of.Given as goal

abbrev pub invariant-loop-next : goal.invariant-loop-next
invariant-loop-next l = IsOnTheWay l.fn.first l.current l.boots

abbrev pub decreases-loop-next : goal.decreases-loop-next
decreases-loop-next l = changes_left l.current
