use Rattle.lane_server.proofs.Runs.{are_done, are_done_to}
use Rattle.lane_server.proofs.laws.requests_are_done_in_order.Goals as goal

pub returns : goal.returns
returns g c =
    let of_resolves = c.runs_resolve_one_package.ensures in
    let of_updates = c.replies_have_causes.ensures in
    record {
      all = λ desk. are_done of_resolves.begin of_resolves.ended of_resolves.last of_updates (g.K.Desk.firm desk);
      front = λ desk. are_done_to of_resolves.begin of_resolves.ended of_resolves.last of_updates (g.K.Desk.firm desk);
    }
