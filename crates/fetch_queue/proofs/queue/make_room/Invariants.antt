use Rattle.std.proofs.Common.{◌≡◌, ◌++◌, map, take, drop}
use Rattle.fetch_queue.specs.Fetches.{roomed}
use Rattle.fetch_queue.proofs.queue.make_room.Given as goal

abbrev pub invariant-loop-claim : goal.invariant-loop-claim
invariant-loop-claim l = l.claims ≡ map (roomed l.root l.len) (take l.claim-index l.fn.claims) ++ drop l.claim-index l.fn.claims
