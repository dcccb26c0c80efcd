use Rattle.std.proofs.Common.{◌+◌, sym, subst}
use Rattle.disk_model.specs.Picks.{HasPicks}
use Rattle.disk_model.proofs.LastPicks.{has_picks_more}
use Rattle.disk_model.proofs.last.picks_of.Goals as goal

pub loop-page-preserved : goal.loop-page-preserved
loop-page-preserved c =
    subst (HasPicks c.args.last.now c.args.synced (c.loop-page.page + 1)) (sym c.in_ok-push_pick.ensures)
    (has_picks_more c.args.last.now c.args.synced c.loop-page.page c.loop-page.picks.items c.loop-page.invariant)
