use Rattle.disk_model.specs.Picks.{HasPicks}
use Rattle.disk_model.proofs.last.picks_of.Given as goal

abbrev pub invariant-loop-page : goal.invariant-loop-page
invariant-loop-page l = HasPicks l.last l.synced l.page l.picks.items
